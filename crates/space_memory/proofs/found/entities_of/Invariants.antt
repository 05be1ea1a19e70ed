use Rattle.std.proofs.Common.{◌≡◌, ◌++◌}
use Rattle.std.specs.Prelude.{filter_map}
use Rattle.entity_maps.specs.Entities.{entity_map}
use Rattle.space_memory.specs.Found.{entity_of}
use Rattle.space_memory.proofs.found.entities_of.Given as goal

abbrev pub invariant-loop-id : goal.invariant-loop-id
invariant-loop-id l = l.found.items ++ filter_map (entity_of (entity_map l.entities) l.kind) l.id-iterator ≡ filter_map (entity_of (entity_map l.entities) l.kind) l.initial.id-iterator
