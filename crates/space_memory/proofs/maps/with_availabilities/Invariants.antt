use Rattle.std.proofs.Common.{◌≡◌, ◌++◌, [], length, map}
use Rattle.std.specs.Prelude.{unwrap_or}
use Rattle.std.specs.FinMap.{get}
use Rattle.std.specs.Vec.Iter.{into_iter_items, into_iter_len}
use Rattle.entity_core.specs.Airspace.{Availabilities}
use Rattle.entity_core.specs.declared.availability.Availability.TheVariants.{Unknown}
use Rattle.entity_core.specs.declared.entity.Entity.{Entity}
use Rattle.entity_maps.specs.Availabilities.{availability_map}
use Rattle.space_core.specs.declared.met.Met.{Met}
use Rattle.space_memory.proofs.maps.with_availabilities.Given as goal

-- An entity with the availability of its manager in a map.
abbrev met_by : Availabilities → Entity → Met
met_by m e = record { entity = e; availability = (unwrap_or (get m e.manager) (Unknown, [])).0 }

abbrev pub invariant-loop-entity : goal.invariant-loop-entity
invariant-loop-entity l = record {
  so_far : l.met.items ++ map (met_by (availability_map l.availabilities)) (into_iter_items l.entity-iterator) ≡ map (met_by (availability_map l.availabilities)) l.fn.entities.items;
  left : into_iter_len l.entity-iterator ≡ length (into_iter_items l.entity-iterator);
}
