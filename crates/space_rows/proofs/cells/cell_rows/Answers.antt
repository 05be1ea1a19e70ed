use Rattle.std.proofs.Common.{◌+◌, sym, subst, ℤ, to_z, of_z, w64, arith}
use Rattle.std.proofs.lemmas.Int.{to_z-of_z}
use Rattle.space_rows.specs.Cells.{SpellsCells}
use Rattle.space_rows.proofs.ReadSoFar.{front}
use Rattle.space_rows.proofs.CellRows.{CellsWritten, written_more, written_all}
use Rattle.space_rows.proofs.cells.cell_rows.Goals as goal

pub loop-place-preserved : goal.loop-place-preserved
loop-place-preserved g c =
    let is_row = g.R.RowOfCell.is_row (to_z w64 (of_z w64 c.args.num)) c.args.volume in
    let cells = c.args.cells.now in
    let place = c.loop-place.place in
    subst (CellsWritten is_row cells (place + 1)) (sym c.in_ok-push.ensures.items)
    (written_more is_row cells place c.loop-place.rows.items c.in_ok-of_cell.field-0 c.index-cells-place.result
    (front cells place c.index-cells-place.result (omega arith) c.index-cells-place.is) c.in_ok-of_cell.ensures c.loop-place.invariant)

pub returns : goal.returns
returns g c =
    let n : ℤ = to_z w64 (of_z w64 c.args.num) in
    subst (λ (k : ℤ). SpellsCells (g.R.RowOfCell.is_row k c.args.volume) 0 c.loop-place.rows.items c.args.cells.now) (to_z-of_z w64 c.args.num c.ranges.num)
    (written_all (g.R.RowOfCell.is_row n c.args.volume) c.args.cells.now c.loop-place.place c.loop-place.rows.items (omega arith) c.loop-place.invariant)
