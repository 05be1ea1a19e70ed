use Rattle.std.proofs.Common.{◌∙◌}
use Rattle.std.specs.Map.Iter.{deref}
use Rattle.std.proofs.lemmas.Map.Iter.{rest_all}
use Rattle.entity_maps.specs.Entities.{entity_map}
use Rattle.space_memory.specs.Names.{Naming, dependent_at}
use Rattle.space_memory.proofs.NamePairs.{all_taken, dependents_found}
use Rattle.space_memory.proofs.names.dependents_of.Goals as goal

pub returns : goal.returns
returns c =
    all_taken (λ (q : Naming). dependent_at (entity_map c.args.entities.now) c.args.id q.1) c.loop-pair.found.items c.loop-pair.pair-iterator c.into_iter-pair-iterator.result c.pairs_of-pair-items.result
    (rest_all deref _ _ _ c.in-None.is c.next.ensures.steps) c.into_iter-pair-iterator.ensures.into_iter_gives c.loop-pair.invariant
    ∙ dependents_found c.args.entities.now c.args.names.now c.args.id c.pairs_of-pair-items.result c.requires c.pairs_of-pair-items.ensures
