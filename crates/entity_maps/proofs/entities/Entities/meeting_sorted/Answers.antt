use Rattle.std.proofs.Common.{refl, ap, ◌∙◌}
use Rattle.std.specs.Map.Iter.{deref}
use Rattle.std.proofs.lemmas.Map.Iter.{rest_all}
use Rattle.entity_maps.proofs.EntityTrees.{meeting_found, wanted}
use Rattle.entity_maps.proofs.Trees.{all_gone}
use Rattle.entity_maps.proofs.entities.Entities.meeting_sorted.Goals as goal

pub returns : goal.returns
returns c =
    let sought = wanted c.args.kind c.args.areas.now c.args.except in
    let found = all_gone sought c.loop-entity.found.items (sought c.into_iter-entity-iterator.result) c.loop-entity.entity-iterator refl c.loop-entity.invariant (rest_all deref _ _ _ c.in-None.is c.next.ensures.steps) in
    meeting_found c.self.inside.tree c.args.self.now c.self.view_is c.self.invariant c.values-entity-items.ensures.ordered c.args.kind c.args.areas.now c.args.except c.loop-entity.found.items (
    found ∙ ap sought (c.into_iter-entity-iterator.ensures.into_iter_gives ∙ c.values-entity-items.ensures.rest))
