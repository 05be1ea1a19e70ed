-- Definitions of the airspace that the rows list.
use Rattle.std.specs.Prelude.{◌≡◌, ℕ, ℤ, pos, ◌≤◌, List, [], ◌∷◌, ◌++◌, map, Option, Some, None}
use Rattle.std.specs.Ordering.{int_cmp}
use Rattle.std.specs.declared.cmp.Ordering.TheVariants.{Less}
use Rattle.std.specs.FinMap.{find, get, insert, empty}
use Rattle.sqlite_value.specs.Order.{Row}
use Rattle.sqlite_trees.specs.Tree.{IsAscending}
use Rattle.entity_core.specs.declared.entity.Entity.{Entity}
use Rattle.entity_core.specs.declared.subscription.Sub.{Sub}
use Rattle.entity_core.specs.Airspace.{Airspace, Entities, Subscriptions, Availabilities, VersionedAvailability, key_of}
use Rattle.entity_core.specs.Serial.{max_serial}
use Rattle.entity_maps.specs.Subscriptions.{subscription_map}
use Rattle.space_rows.specs.declared.rows.EntityRow.{EntityRow}
use Rattle.space_rows.specs.declared.rows.VolumeRow.{VolumeRow}
use Rattle.space_rows.specs.declared.rows.CellRow.{CellRow}
use Rattle.space_rows.specs.declared.rows.SubRow.{SubRow}
use Rattle.space_rows.specs.declared.rows.SubCellRow.{SubCellRow}
use Rattle.space_rows.specs.Rows.{SpellsEntity}
use Rattle.space_rows.specs.Subs.{SpellsSub}
use Rattle.space_sql_schema.specs.Spelling.{entity_values, volume_values, cell_values, sub_values, sub_cell_values, meta_values}
use Rattle.space_sql_select.specs.declared.sub_rows.NamingRow.{NamingRow}
use Rattle.space_sql_select.specs.Meta.{AreOtherFormat}
use Rattle.space_sql_select.specs.Rows.{number_values, values_of_naming}
use Rattle.space_sql_select.specs.AvailabilityRecord.{SaysSetting}
use Rattle.space_sql_load.specs.declared.naming.Numbered.{Numbered}
use Rattle.space_sql_load.specs.declared.subscriptions.KnownSubs.{KnownSubs}
use Rattle.space_sql_load.specs.declared.tables.EntityTables.{EntityTables}
use Rattle.space_sql_load.specs.declared.tables.SubTables.{SubTables}
use Rattle.space_sql_load.specs.declared.tables.Tables.{Tables}
use Rattle.space_sql_load.specs.declared.table_check.TableCheck.{TableCheck}
use Rattle.space_sql_load.specs.declared.table_check.TableCheck.TheVariants.{Valid, OtherFormat, Invalid}
use Rattle.space_sql_load.specs.Checking.{loaded_airspace}

-- Holds if the first element, if any, does not have P.
abbrev pub StartsElse : {X : Type 0} → (X → Type 0) → List X → Type 0
StartsElse P [] = Unit {0}
StartsElse P (x ∷ xs) = ¬ P x

-- ---- subscriptions

-- The subscriptions by their ids, and their numbers.
abbrev pub Subs : Type 0
Subs = Subscriptions × List Numbered

abbrev pub subs_of : KnownSubs → Subs
subs_of k = (subscription_map k.subscriptions, k.numbers.items)

-- Holds if a row of `subscription` and its rows of `subscription_cell` represent the subscription.
-- Its number is greater than the last one. Neither its serial nor its index exceeds the serial of
-- the airspace. Its id differs from all before it.
pub record IsNextSub (serial : ℕ) (last : ℤ) (row : SubRow) (cells : List SubCellRow)
    (before : Subscriptions) (s : Sub) : Type 0 where
  pub rising : int_cmp last row.num ≡ Less
  pub spelt : SpellsSub row cells s
  pub most : s.serial ≤ serial
  pub index : s.index ≤ serial
  pub new : get before s.id ≡ None

-- Holds if the row and the first rows of `subscription_cell` represent a subscription.
pub record SubStep (serial : ℕ) (last : ℤ) (row : SubRow) (cells : List SubCellRow)
    (before : Subs) : Type 0 where
  pub own : List SubCellRow
  pub more : List SubCellRow
  pub sub : Sub
  pub cells_are : cells ≡ own ++ more
  pub next : IsNextSub serial last row own before.0 sub

-- The number and the id of the subscription that a row represents.
abbrev pub numbered : SubRow → Sub → Numbered
numbered row s = record { num = row.num; id = s.id }

abbrev pub with_sub : SubRow → Sub → Subs → Subs
with_sub row s before = (insert before.0 s.id s, before.1 ++ numbered row s ∷ [])

-- Holds if the rows, subscription by subscription, represent those that `all` has beyond `before`.
abbrev pub GathersSubs : ℕ → ℤ → List SubRow → List SubCellRow → Subs → Subs → Type 0
GathersSubs serial last [] cells before all = (cells ≡ []) × (before ≡ all)
GathersSubs serial last (row ∷ rows) cells before all =
    (step : SubStep serial last row cells before)
    × GathersSubs serial row.num rows step.more (with_sub row step.sub before) all

-- Holds if the rows represent exactly these subscriptions.
pub record ListsSubs (serial : ℕ) (t : SubTables) (all : Subs) : Type 0 where
  pub rows : List SubRow
  pub cells : List SubCellRow
  pub rows_are : t.subscriptions.items ≡ map sub_values rows
  pub cells_are : t.cells.items ≡ map sub_cell_values cells
  pub gathered : GathersSubs serial (pos 0) rows cells (empty, []) all

-- ---- references of entities

-- A number with its id.
abbrev pub number_pair : Numbered → ℤ × ℕ
number_pair n = (n.num, n.id)

-- The id of the subscription with a number.
abbrev pub id_in : List Numbered → ℤ → Option ℕ
id_in numbers num = find int_cmp num (map number_pair numbers)

-- Holds if the rows of `naming` of the entity with a number match what it references. They are none
-- if it references none. Otherwise there is one, with the number of the subscription with the
-- referenced id.
abbrev pub NamesBy : List Numbered → ℤ → List NamingRow → Option ℕ → Type 0
NamesBy numbers num own None = own ≡ []
NamesBy numbers num own (Some id) =
    (at : ℤ) × (own ≡ record { entity = num; subscription = at } ∷ []) × (id_in numbers at ≡ Some id)

-- ---- entities

-- Holds if a row of `entity` and its rows of `volume` and `cell` represent the entity, with this
-- referenced subscription. Its number is greater than the last one. Its serial does not exceed that
-- of the airspace. Its key differs from all before it.
pub record IsNext (serial : ℕ) (last : ℤ) (row : EntityRow) (volumes : List VolumeRow)
    (cells : List CellRow) (named : Option ℕ) (before : Entities) (e : Entity) : Type 0 where
  pub rising : int_cmp last row.num ≡ Less
  pub spelt : SpellsEntity row volumes cells named e
  pub most : e.serial ≤ serial
  pub new : get before (key_of e) ≡ None

-- The rows of `volume`, `cell` and `naming`.
pub record Parts : Type 0 where
  pub volumes : List VolumeRow
  pub cells : List CellRow
  pub namings : List NamingRow

abbrev pub parts_of : List VolumeRow → List CellRow → List NamingRow → Parts
parts_of volumes cells namings =
    record { volumes = volumes; cells = cells; namings = namings }

abbrev pub joined : Parts → Parts → Parts
joined own more =
    parts_of (own.volumes ++ more.volumes) (own.cells ++ more.cells) (own.namings ++ more.namings)

-- Holds if the row, with the first rows of `volume`, `cell` and `naming`, represents an entity.
pub record Step (serial : ℕ) (numbers : List Numbered) (last : ℤ) (row : EntityRow) (parts : Parts)
    (before : Entities) : Type 0 where
  pub own : Parts
  pub more : Parts
  pub named : Option ℕ
  pub entity : Entity
  pub parts_are : parts ≡ joined own more
  pub names : NamesBy numbers row.num own.namings named
  pub next : IsNext serial last row own.volumes own.cells named before entity

abbrev pub no_parts : Parts
no_parts = parts_of [] [] []

-- Holds if the rows, entity by entity, represent those that `all` has beyond `before`.
abbrev pub Gathers : ℕ → List Numbered → ℤ → List EntityRow → Parts → Entities → Entities → Type 0
Gathers serial numbers last [] parts before all = (parts ≡ no_parts) × (before ≡ all)
Gathers serial numbers last (row ∷ rows) parts before all =
    (step : Step serial numbers last row parts before)
    × Gathers serial numbers row.num rows step.more
    (insert before (key_of step.entity) step.entity) all

-- Holds if the rows represent exactly these entities.
pub record ListsEntities (serial : ℕ) (numbers : List Numbered) (t : EntityTables) (all : Entities)
    : Type 0 where
  pub rows : List EntityRow
  pub parts : Parts
  pub rows_are : t.entities.items ≡ map entity_values rows
  pub volumes_are : t.volumes.items ≡ map volume_values parts.volumes
  pub cells_are : t.cells.items ≡ map cell_values parts.cells
  pub namings_are : t.namings.items ≡ map values_of_naming parts.namings
  pub gathered : Gathers serial numbers (pos 0) rows parts empty all

-- ---- availabilities

-- Holds if the row of `availability` is what a USS has set, and the USS differs from all before it.
pub record IsSetting (row : Row) (before : Availabilities) (s : List ℕ × VersionedAvailability) : Type 0 where
  pub says : SaysSetting row s
  pub new : get before s.0 ≡ None

-- Holds if the rows are, one by one, what `all` has beyond `before`.
abbrev pub ReadsAvailabilities : List Row → Availabilities → Availabilities → Type 0
ReadsAvailabilities [] before all = before ≡ all
ReadsAvailabilities (row ∷ rows) before all =
    (s : List ℕ × VersionedAvailability) × IsSetting row before s × ReadsAvailabilities rows (insert before s.0 s.1) all

-- ---- the airspace

-- Holds if the rows are ascending numbers.
abbrev pub AreRising : List Row → Type 0
AreRising rows =
    (ids : List ℤ) × (rows ≡ map number_values ids)
    × IsAscending (λ m n. int_cmp m n ≡ Less) ids

abbrev pub HaveRisingIds : Tables → Type 0
HaveRisingIds t =
    AreRising t.rowids.volumes.items × AreRising t.rowids.cells.items
    × AreRising t.rowids.settings.items × AreRising t.rowids.sub_cells.items

pub record IsListed (t : Tables) (a : Airspace) : Type 0 where
  pub meta : t.metas.items ≡ meta_values 2 a.serial ∷ []
  pub most : a.serial ≤ max_serial
  pub numbers : List Numbered
  pub subscriptions : ListsSubs a.serial t.subscriptions (a.subscriptions, numbers)
  pub entities : ListsEntities a.serial numbers t.entities a.entities
  pub availabilities : ReadsAvailabilities t.settings.items empty a.availabilities
  pub rising : HaveRisingIds t

-- Holds if the result of the check is right for the rows.
abbrev pub Judges : Tables → TableCheck → Type 0
Judges t (Valid l) = IsListed t (loaded_airspace l)
Judges t OtherFormat = AreOtherFormat t.metas.items
Judges t Invalid = ((a : Airspace) → ¬ IsListed t a) × ¬ AreOtherFormat t.metas.items
