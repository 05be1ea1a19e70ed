-- What the admin port shows of an entity.
use Rattle.std.specs.Prelude.{◌≡◌, None, codes}
use Rattle.grid_core.specs.Volumes.{span_of}
use Rattle.entity_core.specs.Entity.{kind_of}
use Rattle.entity_core.specs.declared.availability.Availability.{Availability}
use Rattle.entity_core.specs.declared.entity.Entity.{Entity}
use Rattle.policy_core.specs.declared.reference.Reference.{Reference}
use Rattle.serde_json.specs.Data.{Data, no_members, object, put}
use Rattle.wire_reply.specs.Built.{reference_data}
use Rattle.wire_reply.specs.Reference.{reference_name}

-- The reference of an entity as other USSs see it: without its OVN.
abbrev pub shown_of : Entity → Availability → Reference
shown_of e availability = record {
  nature = e.nature;
  id = e.id;
  manager = e.manager;
  availability = availability;
  version = e.version;
  ovn = None;
  time_start = (span_of e.volumes).0;
  time_end = (span_of e.volumes).1;
  url = e.url;
}

-- Holds if the value has the entity's reference under the name of its kind, and its extents.
abbrev pub IsShownAs : Entity → Availability → Data → Type 0
IsShownAs e availability d = (extents : Data)
    × (d ≡ object (put (reference_name (kind_of e.nature)) (reference_data (shown_of e availability))
    (put (codes "extents") extents no_members)))
