use Rattle.std.proofs.Common.{◌≡◌, ◌+◌, ◌++◌, ◌∷◌, [], take, map, ap, sym, ◌∙◌, List}
use Rattle.std.proofs.lemmas.List.{take_more, map-append}
use Rattle.entity_core.specs.declared.subscription.Sub.{Sub}
use Rattle.policy_core.specs.declared.sub_view.SubView.{SubView}
use Rattle.service_step.specs.Step.{seen_sub}
use Rattle.service_step.proofs.Looked.{looks_then}
use Rattle.service_step.proofs.sub_effects.sub_views_of.Goals as goal

pub loop-sub-preserved : goal.loop-sub-preserved
loop-sub-preserved g c =
    let ss = c.args.subs.now in
    let i = c.loop-sub.sub-index in
    let s = c.sub-item.result in
    let more : take (i + 1) ss ≡ take i ss ++ s ∷ [] = take_more ss i s c.loop-sub-test.true ∙ ap (λ (x : Sub). take i ss ++ x ∷ []) (sym c.sub-item.is) in
    looks_then g.S.Space c.args.space.now c.loop-sub.space c.seen_sub.new.space
    c.loop-sub.items.items c.in_ok-seen_sub.field-0 _ _ _ _ c.loop-sub.invariant c.in_ok-seen_sub.ensures (λ a p q.
    c.in_ok-push.ensures.items ∙ (ap (λ (vs : List SubView). vs ++ c.in_ok-seen_sub.field-0 ∷ []) p ∙ (ap (λ (v : SubView). map (seen_sub a) (take i ss) ++ v ∷ []) q
    ∙ (sym (map-append (seen_sub a) (take i ss) (s ∷ [])) ∙ ap (map (seen_sub a)) (sym more)))))
