-- Definitions of the rows that represent a subscription.
use Rattle.std.specs.Prelude.{◌≡◌, ℕ, ℤ, pos, ◌≤◌, ◌<◌, ◌≤ℤ◌, ◌^◌, Bool, true, false, List, None}
use Rattle.std.specs.List.{AllZip}
use Rattle.grid_core.specs.Cell.{Cell, lo_of, hi_of}
use Rattle.grid_core.specs.Token.{IsShortest}
use Rattle.entity_core.specs.declared.interest.Interest.{Interest}
use Rattle.entity_core.specs.declared.nature.Kind.TheVariants.{Intent, Constraint}
use Rattle.entity_core.specs.declared.subscription.Sub.{Sub}
use Rattle.entity_core.specs.EntityId.{printed}
use Rattle.entity_core.specs.IdTexts.{name_fault, ovn_fault, url_fault}
use Rattle.entity_core.specs.Serial.{max_serial}
use Rattle.entity_core.specs.Subscription.{wants}
use Rattle.space_rows.specs.declared.rows.SubRow.{SubRow}
use Rattle.space_rows.specs.declared.rows.SubCellRow.{SubCellRow}
use Rattle.space_rows.specs.Rows.{IsVolume, placed}

-- The number of a flag: 0 or 1.
abbrev pub flag_number : Bool → ℤ
flag_number false = pos 0
flag_number true = pos 1

-- Holds if the two numbers represent the interest of a subscription.
pub record SpellsInterest (for_intents for_constraints : ℤ) (i : Interest) : Type 0 where
  pub intents : for_intents ≡ flag_number (wants i Intent)
  pub constraints : for_constraints ≡ flag_number (wants i Constraint)

-- Holds if the values keep the invariants of the types of a subscription.
pub record IsSub (s : Sub) : Type 0 where
  pub id : s.id < 2 ^ 128
  pub manager : name_fault s.manager ≡ None
  pub version : ovn_fault s.version ≡ None
  pub serial : (1 ≤ s.serial) × (s.serial ≤ max_serial)
  pub index : s.index ≤ max_serial
  pub volume : IsVolume s.volume
  pub url : url_fault s.url ≡ None

-- Holds if the row has the subscription's columns, and its number is from 1 to the serial.
pub record IsSubRow (row : SubRow) (s : Sub) : Type 0 where
  pub least : pos 1 ≤ℤ row.num
  pub most : row.num ≤ℤ pos s.serial
  pub id : row.id ≡ printed s.id
  pub manager : row.manager ≡ s.manager
  pub serial : row.serial ≡ pos s.serial
  pub version : row.version ≡ s.version
  pub notes : row.notes ≡ pos s.index
  pub url : row.url ≡ s.url
  pub interest : SpellsInterest row.for_intents row.for_constraints s.interest
  pub alt_lower : row.alt_lower ≡ s.volume.altitude.0
  pub alt_upper : row.alt_upper ≡ s.volume.altitude.1
  pub time_start : row.time_start ≡ pos s.volume.time.0
  pub time_end : row.time_end ≡ pos s.volume.time.1

-- Holds if the row is that of a cell and its position, of the subscription with this number, with
-- the cell's printed token.
pub record IsSubCellRow (num : ℤ) (row : SubCellRow) (c : ℕ × Cell) : Type 0 where
  pub subscription : row.subscription ≡ num
  pub place : row.place ≡ pos c.0
  pub token : IsShortest row.token c.1
  pub lo : row.lo ≡ pos (lo_of c.1)
  pub hi : row.hi ≡ pos (hi_of c.1)

-- Holds if a row of `subscription` and the rows of `subscription_cell`, in the order of their
-- positions, represent a subscription. Positions count from 0 without gaps. There is a cell, as
-- `IsVolume` says.
pub record SpellsSub (row : SubRow) (cells : List SubCellRow) (s : Sub) : Type 0 where
  pub sub : IsSubRow row s
  pub cells_are : AllZip (IsSubCellRow row.num) cells (placed 0 s.volume.cells)
  pub kept : IsSub s
