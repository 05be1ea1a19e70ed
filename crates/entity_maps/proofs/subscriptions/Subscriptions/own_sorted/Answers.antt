use Rattle.std.proofs.Common.{refl, ap, ◌∙◌}
use Rattle.std.specs.Map.Iter.{deref}
use Rattle.std.proofs.lemmas.Map.Iter.{rest_all}
use Rattle.entity_maps.proofs.SubscriptionTrees.{own_found, own_near}
use Rattle.entity_maps.proofs.Trees.{all_gone}
use Rattle.entity_maps.proofs.subscriptions.Subscriptions.own_sorted.Goals as goal

pub returns : goal.returns
returns c =
    let near = own_near c.args.uss.now c.args.area.now in
    let found = all_gone near c.loop-sub.own.items (near c.into_iter-sub-iterator.result) c.loop-sub.sub-iterator refl c.loop-sub.invariant (rest_all deref _ _ _ c.in-None.is c.next.ensures.steps) in
    own_found c.self.inside.tree c.args.self.now c.self.view_is c.self.invariant c.values-sub-items.ensures.ordered c.args.uss.now c.args.area.now c.loop-sub.own.items (
    found ∙ ap near (c.into_iter-sub-iterator.ensures.into_iter_gives ∙ c.values-sub-items.ensures.rest))
