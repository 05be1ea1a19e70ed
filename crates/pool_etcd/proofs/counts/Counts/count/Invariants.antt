use Rattle.std.proofs.Common.{◌≡◌, drop}
use Rattle.pool_etcd.specs.Counts.{last_count, no_puts}
use Rattle.pool_etcd.proofs.counts.Counts.count.Given as goal

abbrev pub invariant-loop-count : goal.invariant-loop-count
invariant-loop-count l = last_count l.key no_puts l.items ≡ last_count l.key l.puts (drop l.count-index l.items)
