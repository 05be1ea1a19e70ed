-- Definitions of what a row of the table `subscription` represents, except for the volume.
use Rattle.std.specs.Prelude.{◌≡◌, ℤ, ℕ, pos, ◌≤◌, ◌≤ℤ◌}
use Rattle.grid_core.specs.Extent.{Extent}
use Rattle.entity_core.specs.declared.subscription.Sub.{Sub}
use Rattle.entity_core.specs.IdTexts.{name_fault, ovn_fault, url_fault}
use Rattle.entity_core.specs.Serial.{max_serial}
use Rattle.space_rows.specs.declared.rows.SubRow.{SubRow}
use Rattle.space_rows.specs.declared.rows.VolumeRow.{VolumeRow}
use Rattle.space_rows.specs.declared.sub_head.SubHead.{SubHead}
use Rattle.space_rows.specs.Head.{SpellsCount, SpellsId, SpellsText}
use Rattle.space_rows.specs.Subs.{SpellsInterest}

-- A subscription without its volume.
abbrev pub sub_head_part : Sub → SubHead
sub_head_part s = record {
  id = s.id;
  manager = s.manager;
  version = s.version;
  serial = s.serial;
  index = s.index;
  url = s.url;
  interest = s.interest;
}

-- The subscription with the given volume.
abbrev pub with_volume : SubHead → Extent → Sub
with_volume h v = record {
  id = h.id;
  manager = h.manager;
  version = h.version;
  serial = h.serial;
  index = h.index;
  volume = v;
  url = h.url;
  interest = h.interest;
}

-- Holds if the column is the number, which is from 0 to the max serial.
pub record SpellsIndex (column : ℤ) (n : ℕ) : Type 0 where
  pub number : column ≡ pos n
  pub most : n ≤ max_serial

pub record SpellsSubHead (row : SubRow) (h : SubHead) : Type 0 where
  pub least : pos 1 ≤ℤ row.num
  pub most : row.num ≤ℤ pos h.serial
  pub id : SpellsId row.id h.id
  pub manager : SpellsText name_fault row.manager h.manager
  pub serial : SpellsCount max_serial row.serial h.serial
  pub version : SpellsText ovn_fault row.version h.version
  pub notes : SpellsIndex row.notes h.index
  pub url : SpellsText url_fault row.url h.url
  pub interest : SpellsInterest row.for_intents row.for_constraints h.interest

-- The bounds of a subscription in the form of a volume row.
abbrev pub bounds_of : SubRow → VolumeRow
bounds_of row = record {
  entity = row.num;
  place = pos 0;
  alt_lower = row.alt_lower;
  alt_upper = row.alt_upper;
  time_start = row.time_start;
  time_end = row.time_end;
}
