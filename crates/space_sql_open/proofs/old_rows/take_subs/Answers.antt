use Rattle.std.proofs.Common.{Ok}
use Rattle.sqlite.specs.Held.{state}
use Rattle.space_sql_schema.specs.Spelling.{sub_columns}
use Rattle.space_sql_schema.specs.Tables.{old_unindexed_schema}
use Rattle.space_sql_schema.proofs.OneAirspace.{sub_of_values, sub_back}
use Rattle.space_sql_schema.specs.Spelling.{sub_values}
use Rattle.space_sql_select.specs.Rows.{IsWrittenSub}
use Rattle.space_sql_open.specs.OldRows.{ReadsAll, Takes, WantsSubs, HoldsSubs}
use Rattle.space_sql_open.proofs.Insides.{inside_as}
use Rattle.space_sql_open.proofs.OldReads.{takes_typed}
use Rattle.space_sql_open.proofs.old_rows.take_subs.Goals as goal

pub returns-in-Ok-clause-takes : goal.returns-in-Ok-clause-takes
returns-in-Ok-clause-takes g c =
    let old = state g.S.Store c.args.tx.now.conn.now in
    let new = state g.S.Store c.read_subs.new.tx.conn.now in
    inside_as old_unindexed_schema (ReadsAll sub_columns 10) (Takes WantsSubs HoldsSubs) old new (Ok c.in-Ok.rows) c.typed_subs.result (λ has read. takes_typed sub_values IsWrittenSub sub_columns sub_of_values sub_back 10 old.now new.now c.in-Ok.rows.items c.as_slice.result.now c.as_slice.ensures.value read c.typed_subs.result c.typed_subs.ensures) c.in-Ok.ensures.reads
