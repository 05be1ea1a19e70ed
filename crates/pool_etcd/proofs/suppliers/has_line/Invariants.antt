use Rattle.std.proofs.Common.{◌≡◌, ◌≤◌, length}
use Rattle.pool_etcd.specs.Suppliers.{has_line}
use Rattle.pool_etcd.proofs.suppliers.has_line.Given as goal

abbrev pub invariant-loop-end : goal.invariant-loop-end
invariant-loop-end l = record {
  within : length l.rest ≤ length l.list;
  same : has_line l.list l.organization l.uss ≡ has_line l.rest l.organization l.uss;
}

abbrev pub decreases-loop-end : goal.decreases-loop-end
decreases-loop-end l = length l.rest
