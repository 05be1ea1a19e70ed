use Rattle.std.proofs.Common.{take}
use Rattle.std.specs.List.{All}
use Rattle.space_memory.specs.CellIndex.{Grows, IsMarked}
use Rattle.space_memory.proofs.cell_index.mark_cells.Given as goal

abbrev pub invariant-loop-cell : goal.invariant-loop-cell
invariant-loop-cell l = record { kept : Grows l.initial.marks l.marks; marked : All (IsMarked l.marks l.holder l.volume) (take l.cell-index l.cells) }
