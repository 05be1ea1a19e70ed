-- Definitions of what a row of the table `entity` represents.
use Rattle.std.specs.Prelude.{◌≡◌, ℕ, ℤ, pos, ◌≤◌, ◌<◌, ◌≤ℤ◌, ◌^◌, List, length, Option, None}
use Rattle.grid_core.specs.Extent.{Extent}
use Rattle.entity_core.specs.declared.entity.Entity.{Entity}
use Rattle.entity_core.specs.declared.nature.Nature.{Nature}
use Rattle.entity_core.specs.declared.id_fault.IdFault.{IdFault}
use Rattle.entity_core.specs.IdTexts.{name_fault, ovn_fault, url_fault}
use Rattle.entity_core.specs.Entity.{kind_of, subscription_of, max_version}
use Rattle.entity_core.specs.Serial.{max_serial}
use Rattle.entity_core.specs.EntityId.{printed}
use Rattle.space_rows.specs.declared.rows.EntityRow.{EntityRow}
use Rattle.space_rows.specs.declared.head.Head.{Head}
use Rattle.space_rows.specs.Rows.{kind_number, state_number}

-- An entity without its volumes.
abbrev pub head_part : Entity → Head
head_part e = record {
  nature = e.nature;
  id = e.id;
  manager = e.manager;
  version = e.version;
  serial = e.serial;
  ovn = e.ovn;
  url = e.url;
}

-- The entity with the given volumes.
abbrev pub with_volumes : Head → List Extent → Entity
with_volumes h vs = record {
  nature = h.nature;
  id = h.id;
  manager = h.manager;
  version = h.version;
  serial = h.serial;
  ovn = h.ovn;
  volumes = vs;
  url = h.url;
}

-- Holds if `e` is the entity of these parts, and an entity may have so many volumes.
pub record HasVolumes (h : Head) (vs : List Extent) (e : Entity) : Type 0 where
  pub whole : e ≡ with_volumes h vs
  pub count : (1 ≤ length vs) × (length vs ≤ 32)

-- Holds if the kind, the state and the referenced subscription represent the nature.
pub record SpellsNature (kind state : ℤ) (named : Option ℕ) (n : Nature) : Type 0 where
  pub kind_is : kind ≡ kind_number (kind_of n)
  pub state_is : state ≡ state_number n
  pub named_is : named ≡ subscription_of n

-- Holds if the text is the printed id.
pub record SpellsId (text : List ℕ) (id : ℕ) : Type 0 where
  pub text_is : text ≡ printed id
  pub fits : id < 2 ^ 128

-- Holds if the column is the number, which is from 1 to the max.
pub record SpellsCount (greatest : ℕ) (column : ℤ) (n : ℕ) : Type 0 where
  pub number : column ≡ pos n
  pub least : 1 ≤ n
  pub most : n ≤ greatest

-- Holds if the text has no fault and is the one read.
pub record SpellsText (fault : List ℕ → Option IdFault) (text read : List ℕ) : Type 0 where
  pub same : text ≡ read
  pub right : fault read ≡ None

pub record SpellsHead (row : EntityRow) (named : Option ℕ) (h : Head) : Type 0 where
  pub least : pos 1 ≤ℤ row.num
  pub most : row.num ≤ℤ pos h.serial
  pub nature : SpellsNature row.kind row.state named h.nature
  pub id : SpellsId row.id h.id
  pub manager : SpellsText name_fault row.manager h.manager
  pub version : SpellsCount max_version row.version h.version
  pub serial : SpellsCount max_serial row.serial h.serial
  pub ovn : SpellsText ovn_fault row.ovn h.ovn
  pub url : SpellsText url_fault row.url h.url
