use Rattle.std.proofs.Common.{◌≡◌, ◌≤◌, ◌*◌, take}
use Rattle.grid_core.specs.Volumes.{covered_sum}
use Rattle.grid_core.proofs.volumes.covered_sum.Given as goal

abbrev pub invariant-loop-counted : goal.invariant-loop-counted
invariant-loop-counted l = record {
  total : l.total ≡ covered_sum (take l.counted-index l.volumes);
  most : l.total ≤ 34359738368 * l.counted-index;
}
