use Rattle.std.proofs.Common.{refl, ap, ◌∙◌}
use Rattle.std.specs.Map.{values_of}
use Rattle.std.proofs.lemmas.Map.Iter.{rest_all}
use Rattle.entity_maps.proofs.EntityTrees.{order_kept}
use Rattle.entity_maps.proofs.Trees.{all_gone}
use Rattle.entity_maps.proofs.entities.Entities.into_vec.Goals as goal

pub returns-clause-items : goal.returns-clause-items
returns-clause-items c =
    all_gone values_of c.loop-entity.items.items (values_of c.into_iter-entity-iterator.result) c.loop-entity.entity-iterator refl c.loop-entity.invariant (rest_all (λ p. p) _ _ _ c.in-None.is c.next.ensures.steps)
    ∙ (ap values_of c.into_iter-entity-iterator.ensures.into_iter_gives.0 ∙ c.self.view_is)

pub returns-clause-order : goal.returns-clause-order
returns-clause-order c = order_kept c.self.inside.tree c.args.self c.self.view_is c.self.invariant c.into_iter-entity-iterator.ensures.into_iter_gives.5
