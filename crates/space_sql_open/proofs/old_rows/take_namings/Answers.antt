use Rattle.std.proofs.Common.{Ok}
use Rattle.sqlite.specs.Held.{state}
use Rattle.space_sql_schema.specs.Spelling.{two_columns}
use Rattle.space_sql_schema.specs.Tables.{old_unindexed_schema}
use Rattle.space_sql_select.proofs.TypedRows.{naming_of_values, naming_back}
use Rattle.space_sql_select.specs.Rows.{IsWrittenNaming, values_of_naming}
use Rattle.space_sql_open.specs.OldRows.{ReadsAll, Takes, WantsNamings, HoldsNamings}
use Rattle.space_sql_open.proofs.Insides.{inside_as}
use Rattle.space_sql_open.proofs.OldReads.{takes_typed}
use Rattle.space_sql_open.proofs.old_rows.take_namings.Goals as goal

pub returns-in-Ok-clause-takes : goal.returns-in-Ok-clause-takes
returns-in-Ok-clause-takes g c =
    let old = state g.S.Store c.args.tx.now.conn.now in
    let new = state g.S.Store c.read_namings.new.tx.conn.now in
    inside_as old_unindexed_schema (ReadsAll two_columns 15) (Takes WantsNamings HoldsNamings) old new (Ok c.in-Ok.rows) c.typed_namings.result (λ has read. takes_typed values_of_naming IsWrittenNaming two_columns naming_of_values naming_back 15 old.now new.now c.in-Ok.rows.items c.as_slice.result.now c.as_slice.ensures.value read c.typed_namings.result c.typed_namings.ensures) c.in-Ok.ensures.reads
