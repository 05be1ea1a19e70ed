-- Availabilities ordered by USS id.
use Rattle.std.specs.Prelude.{ℕ, List}
use Rattle.entity_core.specs.Airspace.{Availabilities, VersionedAvailability, text_cmp}
use Rattle.entity_maps.specs.declared.availabilities.AvailabilityEntry.{AvailabilityEntry}
use Rattle.entity_maps.specs.Sorted.{Rise, map_of}

-- The availability that a USS has set, under its USS id.
abbrev pub pair_of : AvailabilityEntry → List ℕ × VersionedAvailability
pair_of e = (e.uss, (e.availability, e.version))

abbrev pub InOrder : List AvailabilityEntry → Type 0
InOrder es = Rise text_cmp pair_of es

-- The map of a list of availabilities.
abbrev pub availability_map : List AvailabilityEntry → Availabilities
availability_map es = map_of text_cmp pair_of es
