use Rattle.std.proofs.Common.{List, map, ap, ◌∙◌}
use Rattle.entity_core.specs.Search.{subscribers_in}
use Rattle.entity_core.specs.declared.subscription.Sub.{Sub}
use Rattle.service_notify.specs.Notices.{notices_of}
use Rattle.service_step.proofs.Looked.{looks_as}
use Rattle.service_step.proofs.Notified.{told_ids}
use Rattle.service_step.proofs.entity_effects.notify_subscribers.Goals as goal

pub returns : goal.returns
returns g c =
    looks_as g.S.Space c.args.space.now c.look_notified.new.space c.in_ok-subs.subs (c.in_ok-sub_ids.field-0, c.in_ok-notices_of.field-0) _ _ c.in_ok-subs.ensures (λ a is can. (
      c.in_ok-sub_ids.ensures ∙ (ap (λ (ss : List Sub). map (λ s. s.id) ss) (c.deref.ensures.value ∙ is can) ∙ told_ids (subscribers_in a.subscriptions c.args.kind c.args.areas.now)),
      c.in_ok-notices_of.ensures ∙ ap notices_of (c.deref-2.ensures.value ∙ is can),
    ))
