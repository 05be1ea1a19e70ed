use Rattle.std.proofs.Common.{◌≡◌, ◌+◌, ◌<◌, drop}
use Rattle.pool_etcd.specs.Comparisons.{differing}
use Rattle.pool_etcd.proofs.comparisons.differing.Given as goal

abbrev pub invariant-loop-comparison : goal.invariant-loop-comparison
invariant-loop-comparison l = record {
  differing : l.differing + differing (drop l.comparison-index l.items) ≡ differing l.items;
  below : l.differing < l.comparison-index + 1;
}
