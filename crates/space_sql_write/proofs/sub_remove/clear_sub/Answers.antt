use Rattle.std.proofs.Common.{to_z-of_z}
use Rattle.sqlite.specs.Held.{state}
use Rattle.space_rows.specs.declared.rows.SubCellRow.{SubCellRow}
use Rattle.space_sql_write.specs.Layout.{Always, IsFree, IsUnnamed, LacksSubCells, Layout, Relays, without_sub_cells, without_sub_row, without_sub_rows}
use Rattle.space_sql_write.specs.Statements.{RelaysSound}
use Rattle.space_sql_write.proofs.Rows.{none_left_of}
use Rattle.space_sql_write.proofs.Running.{runs_then}
use Rattle.space_sql_write.proofs.sub_remove.clear_sub.Goals as goal

pub returns-clause-clears : goal.returns-clause-clears
returns-clause-clears g c =
    let num = c.args.num in
    runs_then (λ _. Relays Always (without_sub_cells num)) (λ _. RelaysSound (IsFree num) (without_sub_row num)) (λ _. RelaysSound (IsUnnamed num) (without_sub_rows num))
    (state g.S.Store c.args.tx.now.conn.now) (state g.S.Store c.clear_sub_cells.new.tx.conn.now) (state g.S.Store c.clear_sub_row.new.tx.conn.now) _ _ _
    (λ cells row.
    let none : (l : Layout) → LacksSubCells num (without_sub_cells num l) = λ l. none_left_of (λ (r : SubCellRow). r.subscription) num l.sub_cells in
    ((λ l free has. row.0 (without_sub_cells num l) (none l, free) (cells l tt has)), (λ l free has. row.1 (without_sub_cells num l) (none l, free) (cells l tt has))))
    (rw (to_z-of_z c.ranges.num) at c.in_ok-clear_sub_cells.ensures.clears) (rw (to_z-of_z c.ranges.num) at c.in_ok-clear_sub_row.ensures.clears)
