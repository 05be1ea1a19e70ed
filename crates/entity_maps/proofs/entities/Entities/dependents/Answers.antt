use Rattle.std.proofs.Common.{refl, ap, ◌∙◌}
use Rattle.std.specs.Map.Iter.{deref}
use Rattle.std.proofs.lemmas.Map.Iter.{rest_all}
use Rattle.entity_maps.proofs.EntityTrees.{dependents_found, naming}
use Rattle.entity_maps.proofs.Trees.{all_gone}
use Rattle.entity_maps.proofs.entities.Entities.dependents.Goals as goal

pub returns : goal.returns
returns c =
    let found = all_gone (naming c.args.id) c.loop-entity.found.items (naming c.args.id c.into_iter-entity-iterator.result) c.loop-entity.entity-iterator refl c.loop-entity.invariant (rest_all deref _ _ _ c.in-None.is c.next.ensures.steps) in
    dependents_found c.self.inside.tree c.args.self.now c.self.view_is c.self.invariant c.values-entity-items.ensures.ordered c.args.id c.loop-entity.found.items (
    found ∙ ap (naming c.args.id) (c.into_iter-entity-iterator.ensures.into_iter_gives ∙ c.values-entity-items.ensures.rest))
