use Rattle.std.proofs.Common.{◌≡◌, ◌↔◌, take, true}
use Rattle.pool_etcd.specs.OwnFence.{DeletesOwn, is_given_by}
use Rattle.pool_etcd.proofs.own_fence.OwnFence.news.Given as goal

abbrev pub invariant-loop-change : goal.invariant-loop-change
invariant-loop-change l = record {
  given : l.news.is_given ≡ is_given_by l.self (take l.change-index l.changes);
  deleted : (l.news.is_deleted ≡ true) ↔ DeletesOwn l.self (take l.change-index l.changes);
}
