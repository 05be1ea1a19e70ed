-- Definitions of the rows that represent an entity.
use Rattle.std.specs.Prelude.{◌≡◌, ℕ, suc, ℤ, pos, ◌≤◌, ◌<◌, ◌≤ℤ◌, ◌^◌, List, [], ◌∷◌, map, length, Option, None}
use Rattle.std.specs.List.{AllByRecursion, AllZip, flat_map}
use Rattle.grid_core.specs.Cell.{Cell, IsCell, lo_of, hi_of}
use Rattle.grid_core.specs.Extent.{Extent, region_of, region_fault}
use Rattle.grid_core.specs.Token.{IsShortest}
use Rattle.entity_core.specs.declared.nature.Kind.{Kind}
use Rattle.entity_core.specs.declared.nature.Kind.TheVariants as kind
use Rattle.entity_core.specs.declared.nature.State.TheVariants.{Accepted, Activated, Nonconforming, Contingent}
use Rattle.entity_core.specs.declared.nature.Nature.{Nature}
use Rattle.entity_core.specs.declared.nature.Nature.TheVariants as nature
use Rattle.entity_core.specs.declared.entity.Entity.{Entity}
use Rattle.entity_core.specs.Entity.{kind_of, subscription_of, max_version}
use Rattle.entity_core.specs.Serial.{max_serial}
use Rattle.entity_core.specs.EntityId.{printed}
use Rattle.entity_core.specs.IdTexts.{name_fault, ovn_fault, url_fault}
use Rattle.space_rows.specs.declared.rows.EntityRow.{EntityRow}
use Rattle.space_rows.specs.declared.rows.VolumeRow.{VolumeRow}
use Rattle.space_rows.specs.declared.rows.CellRow.{CellRow}

-- The number of a kind.
abbrev pub kind_number : Kind → ℤ
kind_number kind.Intent = pos 0
kind_number kind.Constraint = pos 1

-- The number of a state, or 4 for a constraint.
abbrev pub state_number : Nature → ℤ
state_number (nature.Intent Accepted named) = pos 0
state_number (nature.Intent Activated named) = pos 1
state_number (nature.Intent Nonconforming named) = pos 2
state_number (nature.Intent Contingent named) = pos 3
state_number nature.Constraint = pos 4

-- ---- positions

-- The elements of a list with their positions, counted from `k`.
abbrev pub placed : {X : Type 0} → ℕ → List X → List (ℕ × X)
placed k [] = []
placed k (x ∷ xs) = (k, x) ∷ placed (suc k) xs

-- A cell, the position of its volume, and its position in the volume.
pub record PlacedCell : Type 0 where
  pub volume : ℕ
  pub place : ℕ
  pub cell : Cell

-- The cells of the volume at a position, with their own positions counted from `k`.
abbrev pub cells_at : ℕ → ℕ → List Cell → List PlacedCell
cells_at volume k cs = map (λ c. record { volume = volume; place = c.0; cell = c.1 }) (placed k cs)

-- The cells of a volume at its position.
abbrev pub placed_cells : ℕ × Extent → List PlacedCell
placed_cells v = cells_at v.0 0 v.1.cells

-- The cells of all volumes, volume by volume.
abbrev pub all_cells : List Extent → List PlacedCell
all_cells volumes = flat_map placed_cells (placed 0 volumes)

-- ---- invariants of the types of an entity

pub record IsVolume (v : Extent) : Type 0 where
  pub limits : region_fault (region_of v) ≡ None
  pub cells : AllByRecursion IsCell v.cells

pub record IsEntity (e : Entity) : Type 0 where
  pub id : e.id < 2 ^ 128
  pub manager : name_fault e.manager ≡ None
  pub version : (1 ≤ e.version) × (e.version ≤ max_version)
  pub serial : (1 ≤ e.serial) × (e.serial ≤ max_serial)
  pub ovn : ovn_fault e.ovn ≡ None
  pub count : (1 ≤ length e.volumes) × (length e.volumes ≤ 32)
  pub volumes : AllByRecursion IsVolume e.volumes
  pub url : url_fault e.url ≡ None

-- ---- the rows, column by column

-- Holds if the row has the entity's columns, and its number is from 1 to the serial.
pub record IsEntityRow (row : EntityRow) (e : Entity) : Type 0 where
  pub least : pos 1 ≤ℤ row.num
  pub most : row.num ≤ℤ pos e.serial
  pub kind : row.kind ≡ kind_number (kind_of e.nature)
  pub id : row.id ≡ printed e.id
  pub manager : row.manager ≡ e.manager
  pub state : row.state ≡ state_number e.nature
  pub version : row.version ≡ pos e.version
  pub serial : row.serial ≡ pos e.serial
  pub ovn : row.ovn ≡ e.ovn
  pub url : row.url ≡ e.url

-- Holds if the row is that of a volume, and its position, of the entity with this number.
pub record IsVolumeRow (num : ℤ) (row : VolumeRow) (v : ℕ × Extent) : Type 0 where
  pub entity : row.entity ≡ num
  pub place : row.place ≡ pos v.0
  pub alt_lower : row.alt_lower ≡ v.1.altitude.0
  pub alt_upper : row.alt_upper ≡ v.1.altitude.1
  pub time_start : row.time_start ≡ pos v.1.time.0
  pub time_end : row.time_end ≡ pos v.1.time.1

-- Holds if the row is that of the placed cell, with the cell's printed token.
pub record IsCellRow (num : ℤ) (row : CellRow) (c : PlacedCell) : Type 0 where
  pub entity : row.entity ≡ num
  pub volume : row.volume ≡ pos c.volume
  pub place : row.place ≡ pos c.place
  pub token : IsShortest row.token c.cell
  pub lo : row.lo ≡ pos (lo_of c.cell)
  pub hi : row.hi ≡ pos (hi_of c.cell)

-- Holds if a row of `entity`, the rows of `volume` and the rows of `cell` represent an entity. The
-- rows of `volume` are in the order of their positions. The rows of `cell` are in the order of
-- their volumes, then of their own positions. Positions count from 0 without gaps. There is a
-- volume, and each volume has a cell, as `IsEntity` and `region_fault` say.
-- `named` is the id of the subscription to which the entity's row of `naming` refers, if it has
-- one. A constraint has none.
pub record SpellsEntity (row : EntityRow) (volumes : List VolumeRow) (cells : List CellRow)
    (named : Option ℕ) (e : Entity) : Type 0 where
  pub entity : IsEntityRow row e
  pub volumes_are : AllZip (IsVolumeRow row.num) volumes (placed 0 e.volumes)
  pub cells_are : AllZip (IsCellRow row.num) cells (all_cells e.volumes)
  pub named_is : named ≡ subscription_of e.nature
  pub kept : IsEntity e
