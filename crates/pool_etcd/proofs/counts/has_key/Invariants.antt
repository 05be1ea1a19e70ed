use Rattle.std.proofs.Common.{◌≡◌, take, false}
use Rattle.pool_etcd.specs.Counts.{has_key}
use Rattle.pool_etcd.proofs.counts.has_key.Given as goal

abbrev pub invariant-loop-count : goal.invariant-loop-count
invariant-loop-count l = has_key l.key (take l.count-index l.counts) ≡ false
