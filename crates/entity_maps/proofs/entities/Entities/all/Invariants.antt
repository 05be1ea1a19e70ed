use Rattle.std.proofs.Common.{◌≡◌, ◌++◌}
use Rattle.std.specs.Map.{values_of}
use Rattle.entity_maps.proofs.entities.Entities.all.Given as goal

abbrev pub invariant-loop-entity : goal.invariant-loop-entity
invariant-loop-entity l = l.found.items ++ values_of l.entity-iterator ≡ values_of l.initial.entity-iterator
