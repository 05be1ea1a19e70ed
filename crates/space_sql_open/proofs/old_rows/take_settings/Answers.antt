use Rattle.std.proofs.Common.{Ok}
use Rattle.sqlite.specs.Held.{state}
use Rattle.space_sql_schema.specs.Spelling.{three_columns}
use Rattle.space_sql_schema.specs.Tables.{old_first_schema, old_unindexed_schema}
use Rattle.space_sql_open.specs.OldRows.{IsWrittenRecord, record_values}
use Rattle.space_sql_open.proofs.Layings.{record_of_values, record_back}
use Rattle.space_sql_open.specs.OldRows.{ReadsAll, Takes, WantsSettings, HoldsSettings}
use Rattle.space_sql_open.proofs.Insides.{inside_as}
use Rattle.space_sql_open.proofs.OldReads.{takes_typed}
use Rattle.space_sql_open.proofs.old_rows.take_settings.Goals as goal

pub returns-in-Ok-clause-takes : goal.returns-in-Ok-clause-takes
returns-in-Ok-clause-takes g c =
    let old = state g.S.Store c.args.tx.now.conn.now in
    let new = state g.S.Store c.read_settings.new.tx.conn.now in
    inside_as old_unindexed_schema (ReadsAll three_columns 8) (Takes WantsSettings HoldsSettings) old new (Ok c.in-Ok.rows) c.typed_settings.result (λ has read. takes_typed record_values IsWrittenRecord three_columns record_of_values record_back 8 old.now new.now c.in-Ok.rows.items c.as_slice.result.now c.as_slice.ensures.value read c.typed_settings.result c.typed_settings.ensures) c.in-Ok.ensures.reads

pub returns-in-Ok-clause-first : goal.returns-in-Ok-clause-first
returns-in-Ok-clause-first g c =
    let old = state g.S.Store c.args.tx.now.conn.now in
    let new = state g.S.Store c.read_settings.new.tx.conn.now in
    inside_as old_first_schema (ReadsAll three_columns 8) (Takes WantsSettings HoldsSettings) old new (Ok c.in-Ok.rows) c.typed_settings.result (λ has read. takes_typed record_values IsWrittenRecord three_columns record_of_values record_back 8 old.now new.now c.in-Ok.rows.items c.as_slice.result.now c.as_slice.ensures.value read c.typed_settings.result c.typed_settings.ensures) c.in-Ok.ensures.first
