use Rattle.entity_core.specs.Airspace.{notified_again}
use Rattle.entity_core.proofs.Notifications.{told_more}
use Rattle.service_notify.proofs.notice.notify_each.Goals as goal

pub loop-sub-preserved : goal.loop-sub-preserved
loop-sub-preserved c = λ all.
    told_more notified_again c.args.subs.now c.loop-sub.subs c.loop-sub.sub-index c.sub-item.result c.notify.new.self c.loop-sub-test.true all c.notify.ensures (c.loop-sub.invariant all) c.sub-item.is
