use Rattle.std.proofs.Common.{◌≡◌, ℕ, ◌<◌, ◌%◌, true, get_or}
use Rattle.std.specs.Int.{bit_at}
use Rattle.grid_core.specs.Extent.{Region, meets, region_of}
use Rattle.space_memory.proofs.near.meets_one_of.Given as goal

abbrev pub invariant-loop-place : goal.invariant-loop-place
invariant-loop-place l = (j : ℕ) (d : Region) → j < l.place → bit_at l.bits (j % 64) ≡ 1 → meets (region_of l.volume) (get_or l.areas j d) ≡ true → ⊥
