use Rattle.std.proofs.Common.{◌+◌, sym, subst, List, ℤ, drop, to_z, of_z, w64, arith}
use Rattle.std.proofs.lemmas.Int.{to_z-of_z}
use Rattle.grid_core.specs.Cell.{Cell}
use Rattle.space_rows.specs.Cells.{SpellsCells}
use Rattle.space_rows.proofs.ReadSoFar.{ReadSoFar}
use Rattle.space_rows.proofs.CellRows.{cells_more, cells_none, cells_all}
use Rattle.space_rows.proofs.cells.cells_of.Goals as goal

pub loop-place-preserved : goal.loop-place-preserved
loop-place-preserved g c =
    let n : ℤ = to_z w64 (of_z w64 c.args.num) in
    let is_row = g.R.RowOfCell.is_row n c.args.volume in
    let rows = c.args.rows.now in
    let place = c.loop-place.place in
    subst (ReadSoFar (SpellsCells is_row 0 rows) (SpellsCells is_row (place + 1) (drop (place + 1) rows))) (sym c.in_ok-push-in-Some.ensures.items)
    (cells_more is_row (g.met.R.RowOfCell.one_cell n c.args.volume) rows place c.index-rows-place.result c.loop-place.out.items c.in-Some.cell (omega arith) c.index-rows-place.is (rw c.in-Some.is at c.in_ok-cell.ensures) c.loop-place.invariant)

pub returns-in-None : goal.returns-in-None
returns-in-None g c =
    let n : ℤ = to_z w64 (of_z w64 c.args.num) in
    subst (λ (k : ℤ). (cs : List Cell) → ¬ SpellsCells (g.R.RowOfCell.is_row k c.args.volume) 0 c.args.rows.now cs) (to_z-of_z w64 c.args.num c.ranges.num)
    (cells_none (g.R.RowOfCell.is_row n c.args.volume) c.args.rows.now c.loop-place.place c.index-rows-place.result c.loop-place.out.items (omega arith) c.index-rows-place.is (rw c.in-None.is at c.in_ok-cell.ensures) c.loop-place.invariant)

pub returns : goal.returns
returns g c =
    let n : ℤ = to_z w64 (of_z w64 c.args.num) in
    subst (λ (k : ℤ). SpellsCells (g.R.RowOfCell.is_row k c.args.volume) 0 c.args.rows.now c.loop-place.out.items) (to_z-of_z w64 c.args.num c.ranges.num)
    (cells_all (g.R.RowOfCell.is_row n c.args.volume) c.args.rows.now c.loop-place.place c.loop-place.out.items (omega arith) c.loop-place.invariant)
