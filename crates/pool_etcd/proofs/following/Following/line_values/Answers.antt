use Rattle.std.proofs.Common.{None, false, refl, ◌∙◌, ap}
use Rattle.pool_chain.specs.Known.{kept_behind}
use Rattle.pool_etcd.proofs.Followings.{none_read, one_more}
use Rattle.pool_etcd.proofs.following.Following.line_values.Goals as goal

pub loop-change-preserved : goal.loop-change-preserved
loop-change-preserved c =
    let changes = c.args.changes.now in
    let i = c.loop-change.change-index in
    one_more c.args.self.now changes i c.change-item.result c.loop-change.line _ c.loop-change.revision _ c.loop-change-test.true
    c.change-item.is c.loop-change.invariant c.in_ok-add_change.ensures.added c.revision_of-next.ensures c.if-next-revision.false

pub loop-change-init : goal.loop-change-init
loop-change-init c =
    none_read c.args.self.now (record { entries = c.new.result; fence = None; suppliers = None; is_refused = false; links = c.new-2.result })
    c.new.ensures.items refl refl refl c.new-2.ensures.verdicts c.new-2.ensures.unlinked (c.new-2.ensures.chain ∙ ap kept_behind c.link.ensures)
