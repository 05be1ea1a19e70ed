-- The airspace of sorted lists.
use Rattle.std.specs.Prelude.{ℕ, List}
use Rattle.entity_core.specs.Airspace.{Airspace}
use Rattle.entity_core.specs.declared.entity.Entity.{Entity}
use Rattle.entity_core.specs.declared.subscription.Sub.{Sub}
use Rattle.entity_maps.specs.declared.availabilities.AvailabilityEntry.{AvailabilityEntry}
use Rattle.entity_maps.specs.Entities.{entity_map}
use Rattle.entity_maps.specs.Availabilities.{availability_map}
use Rattle.entity_maps.specs.Subscriptions.{subscription_map}

abbrev pub airspace_of : List Entity → List Sub → List AvailabilityEntry → ℕ → Airspace
airspace_of entities subs settings serial = record {
  entities = entity_map entities;
  subscriptions = subscription_map subs;
  availabilities = availability_map settings;
  serial = serial;
}
