use Rattle.std.proofs.Common.{◌≡◌, take}
use Rattle.grid_core.proofs.sorted_area.sorted.Given as goal

abbrev pub invariant-loop-area : goal.invariant-loop-area
invariant-loop-area l = l.sorted.items ≡ take l.area-index l.areas
