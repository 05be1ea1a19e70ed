use Rattle.std.proofs.Common.{ℕ, ◌+◌, refl, ap, ◌∙◌}
use Rattle.std.specs.BTreeMap.Range.{entries_between}
use Rattle.std.specs.Map.{values_of}
use Rattle.std.specs.Map.Iter.{deref_pair}
use Rattle.std.specs.declared.ops.Bound.TheVariants.{Included, Excluded}
use Rattle.std.proofs.lemmas.Map.Iter.{rest_all}
use Rattle.entity_maps.proofs.EntityTrees.{all_found, number_cmp}
use Rattle.entity_maps.proofs.Trees.{all_gone}
use Rattle.entity_maps.proofs.entities.Entities.all.Goals as goal

pub returns : goal.returns
returns c =
    let found = all_gone values_of c.loop-entity.found.items (values_of c.into_iter-entity-iterator.result) c.loop-entity.entity-iterator refl c.loop-entity.invariant (rest_all deref_pair _ _ _ c.in-None.is c.next.ensures.steps) in
    all_found c.self.inside.tree c.args.self.now c.self.view_is c.self.invariant c.range-entity-items.ensures.ordered c.args.kind c.loop-entity.found.items (
    found ∙ (ap values_of (c.into_iter-entity-iterator.ensures.into_iter_gives ∙ c.range-entity-items.ensures.between tt)
    ∙ ap (λ (i : ℕ). values_of (entries_between number_cmp (Included (i, 0)) (Excluded (i + 1, 0)) c.self.inside.tree.entries)) c.kind_index-index.ensures))
