use Rattle.std.proofs.Common.{◌≡◌, ◌<◌, ◌++◌, length}
use Rattle.std.specs.Map.{values_of}
use Rattle.entity_maps.specs.Entities.{entity_map}
use Rattle.space_memory.specs.Purged.{free_in}
use Rattle.space_memory.proofs.purged.first_free.Given as goal

abbrev pub invariant-loop-sub : goal.invariant-loop-sub
invariant-loop-sub l = record {
  so_far : l.gone.items ++ free_in l.until (entity_map l.entities) (values_of l.sub-iterator) ≡ free_in l.until (entity_map l.entities) (values_of l.initial.sub-iterator);
  room : length l.gone.items < l.most;
}
