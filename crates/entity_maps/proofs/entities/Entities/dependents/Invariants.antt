use Rattle.std.proofs.Common.{◌≡◌, ◌++◌}
use Rattle.entity_maps.proofs.EntityTrees.{naming}
use Rattle.entity_maps.proofs.entities.Entities.dependents.Given as goal

abbrev pub invariant-loop-entity : goal.invariant-loop-entity
invariant-loop-entity l = l.found.items ++ naming l.id l.entity-iterator ≡ naming l.id l.initial.entity-iterator
