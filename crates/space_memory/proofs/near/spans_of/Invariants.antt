use Rattle.std.proofs.Common.{ℕ, ◌<◌, ◌%◌, ◌^◌, get_or}
use Rattle.std.specs.List.{All}
use Rattle.grid_core.specs.Extent.{Region}
use Rattle.space_memory.specs.Near.{HasSpansOf}
use Rattle.space_memory.proofs.near.spans_of.Given as goal

abbrev pub invariant-loop-place : goal.invariant-loop-place
invariant-loop-place l = (j : ℕ) (d : Region) → j < l.place → All (HasSpansOf l.spans (2 ^ (j % 64))) (get_or l.areas j d).cells
