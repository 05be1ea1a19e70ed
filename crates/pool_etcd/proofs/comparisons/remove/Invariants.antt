use Rattle.std.proofs.Common.{◌≡◌, ◌++◌, take, drop}
use Rattle.pool_etcd.specs.Comparisons.{without}
use Rattle.pool_etcd.proofs.comparisons.remove.Given as goal

abbrev pub invariant-loop-index : goal.invariant-loop-index
invariant-loop-index l = record {
  same : l.items.items ≡ l.fn.items.items;
  front : without l.organization l.items.items ≡ take l.index l.items.items ++ without l.organization (drop l.index l.items.items);
}
