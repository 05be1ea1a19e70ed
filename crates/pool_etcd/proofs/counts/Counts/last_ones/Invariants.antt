use Rattle.std.proofs.Common.{◌≡◌, ◌++◌, ℕ, List, drop}
use Rattle.pool_etcd.specs.Counts.{last_count, no_puts}
use Rattle.pool_etcd.proofs.counts.Counts.last_ones.Given as goal

abbrev pub invariant-loop-index : goal.invariant-loop-index
invariant-loop-index l = (key : List ℕ) → last_count key no_puts (l.last.items ++ drop l.index l.items) ≡ last_count key no_puts l.items
