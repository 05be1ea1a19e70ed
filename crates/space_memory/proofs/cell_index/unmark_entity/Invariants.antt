use Rattle.space_memory.specs.CellIndex.{KeepsOthers, holder_of}
use Rattle.space_memory.proofs.cell_index.unmark_entity.Given as goal

abbrev pub invariant-loop-place : goal.invariant-loop-place
invariant-loop-place l = KeepsOthers (holder_of l.entity) l.initial.marks l.marks
