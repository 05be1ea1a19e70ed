use Rattle.std.proofs.Common.{ℕ, ◌<◌, get_or}
use Rattle.std.specs.List.{All}
use Rattle.grid_core.specs.Extent.{Extent}
use Rattle.space_memory.specs.CellIndex.{Grows, IsMarked, holder_of}
use Rattle.space_memory.proofs.cell_index.mark_entity.Given as goal

abbrev pub invariant-loop-place : goal.invariant-loop-place
invariant-loop-place l = record { kept : Grows l.initial.marks l.marks; marked : (i : ℕ) (d : Extent) → i < l.place → All (IsMarked l.marks (holder_of l.entity) i) (get_or l.volume-items i d).cells }
