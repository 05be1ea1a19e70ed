use Rattle.std.proofs.Common.{Ok}
use Rattle.sqlite.specs.Held.{state}
use Rattle.space_sql_schema.specs.Spelling.{five_columns}
use Rattle.space_sql_schema.specs.Tables.{old_unindexed_schema}
use Rattle.space_sql_schema.proofs.OneAirspace.{sub_cell_of_values, sub_cell_back}
use Rattle.space_sql_schema.specs.Spelling.{sub_cell_values}
use Rattle.space_sql_select.specs.Rows.{IsWrittenSubCell}
use Rattle.space_sql_open.specs.OldRows.{ReadsAll, Takes, WantsCells, HoldsCells}
use Rattle.space_sql_open.proofs.Insides.{inside_as}
use Rattle.space_sql_open.proofs.OldReads.{takes_typed}
use Rattle.space_sql_open.proofs.old_rows.take_cells.Goals as goal

pub returns-in-Ok-clause-takes : goal.returns-in-Ok-clause-takes
returns-in-Ok-clause-takes g c =
    let old = state g.S.Store c.args.tx.now.conn.now in
    let new = state g.S.Store c.read_cells.new.tx.conn.now in
    inside_as old_unindexed_schema (ReadsAll five_columns 12) (Takes WantsCells HoldsCells) old new (Ok c.in-Ok.rows) c.typed_cells.result (λ has read. takes_typed sub_cell_values IsWrittenSubCell five_columns sub_cell_of_values sub_cell_back 12 old.now new.now c.in-Ok.rows.items c.as_slice.result.now c.as_slice.ensures.value read c.typed_cells.result c.typed_cells.ensures) c.in-Ok.ensures.reads
