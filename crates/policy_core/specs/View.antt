-- A USS's view of an entity.
use Rattle.std.specs.Prelude.{ℕ, List, Option, Some, None, if◌then◌else◌}
use Rattle.grid_core.specs.Volumes.{span_of}
use Rattle.entity_core.specs.IdTexts.{same_text}
use Rattle.entity_core.specs.Airspace.{Airspace, availability_of}
use Rattle.entity_core.specs.declared.availability.Availability.{Availability}
use Rattle.entity_core.specs.declared.entity.Entity.{Entity}
use Rattle.policy_core.specs.declared.reference.Reference.{Reference}

-- The OVN of an entity. Only its manager sees it.
abbrev pub shown_ovn : List ℕ → Entity → Option (List ℕ)
shown_ovn uss e = if same_text e.manager uss then Some e.ovn else None

-- The reference of an entity in a USS's view, given the availability of its manager.
abbrev pub view_with : List ℕ → Entity → Availability → Reference
view_with uss e availability = record {
  nature = e.nature;
  id = e.id;
  manager = e.manager;
  availability = availability;
  version = e.version;
  ovn = shown_ovn uss e;
  time_start = (span_of e.volumes).0;
  time_end = (span_of e.volumes).1;
  url = e.url;
}

-- The reference of an entity in a USS's view, with the availability that its manager has in the
-- airspace.
unfoldable pub view_of : Airspace → List ℕ → Entity → Reference
view_of a uss e = view_with uss e (availability_of a e.manager).0
