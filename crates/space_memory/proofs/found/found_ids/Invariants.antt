use Rattle.entity_core.specs.declared.entity.Entity.{Entity}
use Rattle.entity_maps.specs.Entities.{entity_map}
use Rattle.space_memory.specs.Found.{OnlyPassing, entity_of, is_sought_of}
use Rattle.space_memory.proofs.CellSets.{Seen}
use Rattle.space_memory.proofs.FoundIds.{Taken}
use Rattle.space_memory.proofs.found.found_ids.Given as goal

abbrev pub invariant-loop-part : goal.invariant-loop-part
invariant-loop-part l = record {
  only : OnlyPassing (entity_of (entity_map l.entities) l.kind) (is_sought_of l.kind l.areas l.except) l.ids;
  seen : Seen (Taken (entity_of (entity_map l.entities) l.kind) (λ (e : Entity). e.volumes) (is_sought_of l.kind l.areas l.except) l.areas l.ids) l.initial.part-iterator l.part-iterator;
}
