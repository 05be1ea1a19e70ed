use Rattle.std.proofs.Common.{drop}
use Rattle.space_rows.specs.Cells.{SpellsCells}
use Rattle.space_rows.proofs.ReadSoFar.{ReadSoFar}
use Rattle.space_rows.proofs.cells.cells_of.Given as goal

abbrev pub invariant-loop-place : goal.invariant-loop-place
invariant-loop-place g l =
    let is_row = g.R.RowOfCell.is_row l.fn.num l.volume in
    ReadSoFar (SpellsCells is_row 0 l.rows) (SpellsCells is_row l.place (drop l.place l.rows)) l.out.items
