use Rattle.std.proofs.Common.{◌≡◌, take, map}
use Rattle.grid_core.specs.Extent.{region_of}
use Rattle.grid_core.proofs.volumes.areas_of.Given as goal

abbrev pub invariant-loop-shown : goal.invariant-loop-shown
invariant-loop-shown l = l.areas.items ≡ map region_of (take l.shown-index l.volumes)
