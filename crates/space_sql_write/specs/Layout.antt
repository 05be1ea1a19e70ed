-- Definitions of the rows of the tables during a change.
use Rattle.std.specs.Prelude.{◌≡◌, ℕ, ◌+◌, ◌<◌, ℤ, pos, ◌+ℤ◌, List, [], ◌∷◌, ◌++◌, map, filter, not, Bool, false, if◌then◌else◌, Option, Some, None, IsPermutation}
use Rattle.std.specs.List.{AllByRecursion, flat_map}
use Rattle.std.specs.Ordering.{int_eq, eq_by_cmp}
use Rattle.std.specs.FinMap.{entries}
use Rattle.sqlite_value.specs.Order.{Row}
use Rattle.sqlite_rules.specs.Lists.{Has}
use Rattle.sqlite.specs.Effect.{Database}
use Rattle.entity_core.specs.Airspace.{Airspace, EntityKey, VersionedAvailability, key_of, text_cmp}
use Rattle.entity_core.specs.Serial.{max_serial}
use Rattle.space_rows.specs.declared.rows.EntityRow.{EntityRow}
use Rattle.space_rows.specs.declared.rows.VolumeRow.{VolumeRow}
use Rattle.space_rows.specs.declared.rows.CellRow.{CellRow}
use Rattle.space_rows.specs.declared.rows.SubRow.{SubRow}
use Rattle.space_rows.specs.declared.rows.SubCellRow.{SubCellRow}
use Rattle.space_sql_schema.specs.Tables.{dss_schema}
use Rattle.space_sql_schema.specs.Spelling.{Spells, Group, SubGroup, IsStated, AreApart, meta_values, entity_values, volume_values, cell_values, availability_values, sub_values, sub_cell_values, naming_values, meta_columns, entity_columns, six_columns, three_columns, sub_columns, five_columns, two_columns}
use Rattle.space_sql_schema.specs.Trees.{meta_tree, entity_tree, volume_tree, cell_tree, availability_tree, subscription_tree, subscription_cell_tree, naming_tree}

-- The number of an entity, and that of the subscription that it references.
abbrev pub Naming : Type 0
Naming = ℤ × ℤ

abbrev pub values_of_naming : Naming → Row
values_of_naming n = naming_values n.0 n.1

-- The reference of the entity with a number, if it has one.
abbrev pub namings_of : ℤ → Option ℤ → List Naming
namings_of num None = []
namings_of num (Some subscription) = (num, subscription) ∷ []

-- The serial, and the rows of the other tables, in any order.
pub record Layout : Type 0 where
  pub serial : ℕ
  pub entities : List EntityRow
  pub volumes : List VolumeRow
  pub cells : List CellRow
  pub namings : List Naming
  pub subs : List SubRow
  pub sub_cells : List SubCellRow
  pub availabilities : List (List ℕ × VersionedAvailability)

-- Holds if these are the rows of a table, in any order, and no two share a rowid.
pub record AreRows {R : Type 0} (values : R → Row) (columns : Row → Row) (rs : List R)
    (rows : List Row) : Type 0 where
  pub same : IsPermutation (map values rs) (map columns rows)
  pub apart : AreApart rows

-- Holds if the tables are those of format 2 with these rows. Between the statements of a change
-- they need not represent an airspace.
pub record LaysOut (db : Database) (l : Layout) : Type 0 where
  pub schema : db.schema ≡ dss_schema
  pub meta : map meta_columns (db.trees meta_tree) ≡ meta_values 2 l.serial ∷ []
  pub entities : AreRows entity_values entity_columns l.entities (db.trees entity_tree)
  pub volumes : AreRows volume_values six_columns l.volumes (db.trees volume_tree)
  pub cells : AreRows cell_values six_columns l.cells (db.trees cell_tree)
  pub availabilities : AreRows availability_values three_columns l.availabilities
      (db.trees availability_tree)
  pub subs : AreRows sub_values sub_columns l.subs (db.trees subscription_tree)
  pub sub_cells : AreRows sub_cell_values five_columns l.sub_cells (db.trees subscription_cell_tree)
  pub namings : AreRows values_of_naming two_columns l.namings (db.trees naming_tree)

-- The rows of an airspace that the tables represent.
abbrev pub layout_of : (db : Database) (a : Airspace) → Spells db a → Layout
layout_of db a p = record {
  serial = a.serial;
  entities = map (λ (g : Group). g.row) p.groups;
  volumes = flat_map (λ (g : Group). g.volumes) p.groups;
  cells = flat_map (λ (g : Group). g.cells) p.groups;
  namings = flat_map (λ (g : Group). namings_of g.row.num g.naming) p.groups;
  subs = map (λ (s : SubGroup). s.row) p.subs;
  sub_cells = flat_map (λ (s : SubGroup). s.cells) p.subs;
  availabilities = entries a.availabilities;
}

-- ---- changes of the rows of entities

-- The rows without the reference of an entity.
abbrev pub without_naming : ℤ → Layout → Layout
without_naming num l =
    record l { namings = filter (λ (n : Naming). not (int_eq n.0 num)) l.namings }

-- The rows without the cells of an entity.
abbrev pub without_cells : ℤ → Layout → Layout
without_cells num l =
    record l { cells = filter (λ (c : CellRow). not (int_eq c.entity num)) l.cells }

abbrev pub without_volumes : ℤ → Layout → Layout
without_volumes num l =
    record l { volumes = filter (λ (v : VolumeRow). not (int_eq v.entity num)) l.volumes }

-- The rows without the row of an entity in `entity`.
abbrev pub without_entity_row : ℤ → Layout → Layout
without_entity_row num l =
    record l { entities = filter (λ (e : EntityRow). not (int_eq e.num num)) l.entities }

-- The rows without the volumes, the cells and the reference of an entity.
abbrev pub without_parts : ℤ → Layout → Layout
without_parts num l = without_volumes num (without_cells num (without_naming num l))

-- The rows without those of an entity.
abbrev pub without_rows : ℤ → Layout → Layout
without_rows num l = without_entity_row num (without_parts num l)

-- The rows with a further row in `entity`.
abbrev pub with_entity_row : EntityRow → Layout → Layout
with_entity_row e l = record l { entities = l.entities ++ e ∷ [] }

-- The rows with further volumes.
abbrev pub with_volumes : List VolumeRow → Layout → Layout
with_volumes vs l = record l { volumes = l.volumes ++ vs }

abbrev pub with_cells : List CellRow → Layout → Layout
with_cells cs l = record l { cells = l.cells ++ cs }

-- The rows with a further row in `entity`, and further volumes and cells.
abbrev pub with_extents : EntityRow → List VolumeRow → List CellRow → Layout → Layout
with_extents e vs cs l = with_cells cs (with_volumes vs (with_entity_row e l))

-- The rows with the reference of an entity, if it has one.
abbrev pub with_naming : ℤ → Option ℤ → Layout → Layout
with_naming num named l = record l { namings = l.namings ++ namings_of num named }

-- The rows with all rows of an entity.
abbrev pub with_rows : EntityRow → List VolumeRow → List CellRow → Option ℤ → Layout → Layout
with_rows e vs cs named l = with_naming e.num named (with_extents e vs cs l)

-- ---- changes of the rows of subscriptions

-- The rows without the cells of a subscription.
abbrev pub without_sub_cells : ℤ → Layout → Layout
without_sub_cells num l =
    record l {
      sub_cells = filter (λ (c : SubCellRow). not (int_eq c.subscription num)) l.sub_cells;
    }

-- The rows without the row of a subscription in `subscription`.
abbrev pub without_sub_row : ℤ → Layout → Layout
without_sub_row num l = record l { subs = filter (λ (s : SubRow). not (int_eq s.num num)) l.subs }

-- The rows without those of a subscription.
abbrev pub without_sub_rows : ℤ → Layout → Layout
without_sub_rows num l = without_sub_row num (without_sub_cells num l)

-- The rows with a further row in `subscription`.
abbrev pub with_sub_row : SubRow → Layout → Layout
with_sub_row s l = record l { subs = l.subs ++ s ∷ [] }

-- The rows with further cells of subscriptions.
abbrev pub with_sub_cells : List SubCellRow → Layout → Layout
with_sub_cells cs l = record l { sub_cells = l.sub_cells ++ cs }

-- The rows with all rows of a subscription.
abbrev pub with_sub_rows : SubRow → List SubCellRow → Layout → Layout
with_sub_rows s cs l = with_sub_cells cs (with_sub_row s l)

-- The row of a subscription after one more notification.
abbrev pub notified_row : SubRow → SubRow
notified_row s = record s { notes = s.notes +ℤ pos 1 }

-- Returns true if the row of a subscription has this id.
abbrev pub has_id : List ℕ → SubRow → Bool
has_id id s = eq_by_cmp text_cmp s.id id

-- The rows after the subscription with an id is notified once more.
abbrev pub with_notified_row : List ℕ → Layout → Layout
with_notified_row id l =
    record l { subs = map (λ (s : SubRow). if has_id id s then notified_row s else s) l.subs }

-- ---- changes of other rows

-- The rows without the availability of a USS.
abbrev pub without_availability_row : List ℕ → Layout → Layout
without_availability_row uss l =
    record l { availabilities = filter (λ s. not (eq_by_cmp text_cmp uss s.0)) l.availabilities }

-- The rows with the availability of a USS.
abbrev pub with_availability_row : List ℕ → VersionedAvailability → Layout → Layout
with_availability_row uss stated l =
    record l { availabilities = l.availabilities ++ (uss, stated) ∷ [] }

-- The rows with the next serial.
abbrev pub with_next_serial : Layout → Layout
with_next_serial l = record l { serial = l.serial + 1 }

-- ---- preconditions of statements on the rows

-- Holds if the entity has no cell.
abbrev pub LacksCells : ℤ → Layout → Type 0
LacksCells num l = AllByRecursion (λ (c : CellRow). int_eq c.entity num ≡ false) l.cells

abbrev pub LacksVolumes : ℤ → Layout → Type 0
LacksVolumes num l = AllByRecursion (λ (v : VolumeRow). int_eq v.entity num ≡ false) l.volumes

-- Holds if the entity with the number references nothing.
abbrev pub LacksNaming : ℤ → Layout → Type 0
LacksNaming num l = AllByRecursion (λ (n : Naming). int_eq n.0 num ≡ false) l.namings

-- Holds if the entity has no volume and references nothing.
abbrev pub LacksParts : ℤ → Layout → Type 0
LacksParts num l = LacksVolumes num l × LacksNaming num l

-- Holds if the subscription has no cell.
abbrev pub LacksSubCells : ℤ → Layout → Type 0
LacksSubCells num l =
    AllByRecursion (λ (c : SubCellRow). int_eq c.subscription num ≡ false) l.sub_cells

-- Holds if no entity references the subscription.
abbrev pub IsUnnamed : ℤ → Layout → Type 0
IsUnnamed num l = AllByRecursion (λ (n : Naming). int_eq n.1 num ≡ false) l.namings

-- Holds if the subscription has no cell and no entity references it.
abbrev pub IsFree : ℤ → Layout → Type 0
IsFree num l = LacksSubCells num l × IsUnnamed num l

-- Holds if exactly one row of `subscription` has the number.
pub record HasSub (num : ℤ) (l : Layout) : Type 0 where
  pub row : SubRow
  pub alone : filter (λ (s : SubRow). int_eq s.num num) l.subs ≡ row ∷ []

-- Holds if exactly one row of `subscription` has the id, and its index can increase.
pub record CanBeNotified (id : List ℕ) (l : Layout) : Type 0 where
  pub row : SubRow
  pub alone : filter (has_id id) l.subs ≡ row ∷ []
  pub index : ℕ
  pub notes : row.notes ≡ pos index
  pub below : index < max_serial

-- Holds for all rows.
abbrev pub Always : Layout → Type 0
Always _ = Unit {0}

-- Holds if any rows with P become the changed ones.
abbrev pub Relays : (P : Layout → Type 0) (change : Layout → Layout) → Database → Database → Type 0
Relays P change old new = (l : Layout) → P l → LaysOut old l → LaysOut new (change l)

-- Holds if the availability of a USS is replaced, with texts that are valid for their types.
abbrev pub ReplacesAvailability : List ℕ → VersionedAvailability → Database → Database → Type 0
ReplacesAvailability uss stated old new =
    IsStated (uss, stated)
    × Relays Always (λ l. with_availability_row uss stated (without_availability_row uss l)) old new

-- ---- the number of an entity

-- Holds if one of the groups has the key, and its row has the number.
pub record IsNumberOf (num : ℤ) (k : EntityKey) (gs : List Group) : Type 0 where
  pub group : Group
  pub there : Has gs group
  pub number : group.row.num ≡ num
  pub key : key_of group.entity ≡ k
