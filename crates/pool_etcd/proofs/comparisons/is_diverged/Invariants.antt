use Rattle.std.proofs.Common.{◌≡◌, ◌+◌, drop}
use Rattle.pool_etcd.specs.Comparisons.{agreeing, differing}
use Rattle.pool_etcd.proofs.comparisons.is_diverged.Given as goal

abbrev pub invariant-loop-comparison : goal.invariant-loop-comparison
invariant-loop-comparison l = record {
  agreeing : l.agreeing + agreeing (drop l.comparison-index l.items) ≡ agreeing l.items;
  differing : l.differing + differing (drop l.comparison-index l.items) ≡ differing l.items;
  all : l.agreeing + l.differing ≡ l.comparison-index;
}
