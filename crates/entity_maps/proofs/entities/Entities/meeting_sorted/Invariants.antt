use Rattle.std.proofs.Common.{◌≡◌, ◌++◌}
use Rattle.entity_maps.proofs.EntityTrees.{wanted}
use Rattle.entity_maps.proofs.entities.Entities.meeting_sorted.Given as goal

abbrev pub invariant-loop-entity : goal.invariant-loop-entity
invariant-loop-entity l = l.found.items ++ wanted l.kind l.areas l.except l.entity-iterator ≡ wanted l.kind l.areas l.except l.initial.entity-iterator
