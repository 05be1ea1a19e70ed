use Rattle.std.proofs.Common.{ap, ◌∙◌}
use Rattle.std.proofs.lemmas.Map.Iter.{rest_all}
use Rattle.std.specs.Map.{values_of}
use Rattle.service_notify.proofs.Notified.{none_left, told_all}
use Rattle.service_notify.proofs.notice.notices_of.Goals as goal

pub returns : goal.returns
returns c =
    c.from_vec.ensures
    ∙ (none_left c.loop-notify.items.items c.loop-notify.notify-iterator c.into_iter-notify-iterator.result c.loop-notify.invariant (rest_all (λ p. p) _ _ _ c.in-None.is c.next.ensures.steps)
    ∙ (ap values_of c.into_iter-notify-iterator.ensures.into_iter_gives.0 ∙ told_all c.args.subs.now c.in_ok-told.told c.len.ensures.ordered c.in_ok-told.ensures))
