use Rattle.std.proofs.Common.{sym}
use Rattle.pool_etcd.proofs.OwnFences.{deleted_more, given_at_first, given_more, none_at_first}
use Rattle.pool_etcd.proofs.own_fence.OwnFence.news.Goals as goal

pub loop-change-init : goal.loop-change-init
loop-change-init c = record {
  given = sym (given_at_first c.args.self.now);
  deleted = (λ e. let h : ⊥ = cc in absurd h, λ d. absurd (none_at_first c.args.self.now d));
}

pub loop-change-preserved : goal.loop-change-preserved
loop-change-preserved c =
    let own = c.args.self.now in
    let xs = c.args.changes.now in
    let i = c.loop-change.change-index in
    record {
      given = given_more own xs i c.change-item.result c.loop-change.news.is_given _ c.loop-change-test.true c.change-item.is c.loop-change.invariant.given c.news_with-news.ensures.given;
      deleted = deleted_more own xs i c.change-item.result c.loop-change.news.is_given c.loop-change.news.is_deleted _ c.loop-change-test.true c.change-item.is c.loop-change.invariant.given
          c.loop-change.invariant.deleted c.news_with-news.ensures.deleted;
    }
