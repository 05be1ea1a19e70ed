use Rattle.std.proofs.Common.{to_z-of_z}
use Rattle.sqlite.specs.Held.{state}
use Rattle.space_rows.specs.declared.rows.CellRow.{CellRow}
use Rattle.space_sql_write.specs.Layout.{Always, Relays, LacksCells, without_cells, without_naming, without_parts, without_volumes}
use Rattle.space_sql_write.proofs.Rows.{none_left_of}
use Rattle.space_sql_write.proofs.Running.{runs_then}
use Rattle.space_sql_write.proofs.remove.clear_parts.Goals as goal

pub returns-clause-clears : goal.returns-clause-clears
returns-clause-clears g c =
    let num = c.args.num in
    let first = runs_then (λ _. Relays Always (without_naming num)) (λ _. Relays Always (without_cells num)) (λ (_ : Unit {0}). Relays Always (λ l. without_cells num (without_naming num l)))
    (state g.S.Store c.args.tx.now.conn.now) (state g.S.Store c.clear_naming.new.tx.conn.now) (state g.S.Store c.clear_cells.new.tx.conn.now) _ _ tt
    (λ names cells l any has. cells (without_naming num l) tt (names l tt has))
    (rw (to_z-of_z c.ranges.num) at c.in_ok-clear_naming.ensures.clears) (rw (to_z-of_z c.ranges.num) at c.in_ok-clear_cells.ensures.clears) in
    runs_then (λ (_ : Unit {0}). Relays Always (λ l. without_cells num (without_naming num l))) (λ _. Relays (LacksCells num) (without_volumes num)) (λ _. Relays Always (without_parts num))
    (state g.S.Store c.args.tx.now.conn.now) (state g.S.Store c.clear_cells.new.tx.conn.now) (state g.S.Store c.clear_volumes.new.tx.conn.now) _ _ _
    (λ first second l p has. second (without_cells num (without_naming num l)) (none_left_of (λ (r : CellRow). r.entity) num l.cells) (first l p has))
    first (rw (to_z-of_z c.ranges.num) at c.in_ok-clear_volumes.ensures.clears)
