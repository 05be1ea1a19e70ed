use Rattle.std.proofs.Common.{◌≡◌, ◌++◌}
use Rattle.std.specs.Map.{values_of}
use Rattle.entity_maps.proofs.entities.Entities.into_vec.Given as goal

abbrev pub invariant-loop-entity : goal.invariant-loop-entity
invariant-loop-entity l = l.items.items ++ values_of l.entity-iterator ≡ values_of l.initial.entity-iterator
