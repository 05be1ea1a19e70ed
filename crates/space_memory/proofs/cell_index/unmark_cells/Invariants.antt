use Rattle.space_memory.specs.CellIndex.{KeepsOthers}
use Rattle.space_memory.proofs.cell_index.unmark_cells.Given as goal

abbrev pub invariant-loop-cell : goal.invariant-loop-cell
invariant-loop-cell l = KeepsOthers l.holder l.initial.marks l.marks
