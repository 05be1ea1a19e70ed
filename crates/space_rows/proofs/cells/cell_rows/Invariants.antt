use Rattle.space_rows.proofs.CellRows.{CellsWritten}
use Rattle.space_rows.proofs.cells.cell_rows.Given as goal

abbrev pub invariant-loop-place : goal.invariant-loop-place
invariant-loop-place g l = CellsWritten (g.R.RowOfCell.is_row l.fn.num l.volume) l.cells l.place l.rows.items
