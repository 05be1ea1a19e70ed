use Rattle.std.proofs.Common.{◌≡◌, ◌++◌, map, take}
use Rattle.pool_etcd.specs.Counts.{AreNext, count_of, key_count}
use Rattle.pool_etcd.proofs.counts.Counts.add_each.Given as goal

abbrev pub invariant-loop-change : goal.invariant-loop-change
invariant-loop-change l = record {
  added : l.self ≡ l.initial.self ++ map key_count (take l.change-index l.changes);
  next : AreNext (count_of l.initial.self) (take l.change-index l.changes);
}
