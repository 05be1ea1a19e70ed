-- Definitions of the airspace that the tables represent.
use Rattle.std.specs.Prelude.{◌≡◌, ℕ, ℤ, pos, ◌≤◌, ⊤, List, [], ◌∷◌, map, IsPermutation, Option, Some, None, if◌then◌else◌, ◌==◌, ◌+◌}
use Rattle.std.specs.List.{AllByRecursion, flat_map}
use Rattle.std.specs.Ordering.{int_cmp}
use Rattle.std.specs.declared.cmp.Ordering.TheVariants.{Less}
use Rattle.std.specs.FinMap.{entries}
use Rattle.sqlite_value.specs.declared.value.Value.TheVariants.{Int, Text}
use Rattle.sqlite_value.specs.Order.{Row, column}
use Rattle.sqlite_trees.specs.Tree.{rowid, IsAscending}
use Rattle.sqlite_rules.specs.Lists.{Has}
use Rattle.sqlite.specs.Effect.{Database}
use Rattle.entity_core.specs.declared.availability.Availability.{Availability}
use Rattle.entity_core.specs.declared.availability.Availability.TheVariants.{Unknown, Normal, Down}
use Rattle.entity_core.specs.declared.entity.Entity.{Entity}
use Rattle.entity_core.specs.declared.subscription.Sub.{Sub}
use Rattle.entity_core.specs.Entity.{subscription_of}
use Rattle.entity_core.specs.Airspace.{Airspace, EntityKey, VersionedAvailability, key_of}
use Rattle.entity_core.specs.IdTexts.{name_fault, ovn_fault}
use Rattle.entity_core.specs.Serial.{max_serial}
use Rattle.space_rows.specs.declared.rows.EntityRow.{EntityRow}
use Rattle.space_rows.specs.declared.rows.VolumeRow.{VolumeRow}
use Rattle.space_rows.specs.declared.rows.CellRow.{CellRow}
use Rattle.space_rows.specs.declared.rows.SubRow.{SubRow}
use Rattle.space_rows.specs.declared.rows.SubCellRow.{SubCellRow}
use Rattle.space_rows.specs.Rows.{SpellsEntity}
use Rattle.space_rows.specs.Subs.{SpellsSub}
use Rattle.space_sql_schema.specs.declared.format.Format.{Format}
use Rattle.space_sql_schema.specs.declared.format.Format.TheVariants.{One, TwoUnindexed, Two, OldOne, OldTwoUnindexed, OldTwo}
use Rattle.space_sql_schema.specs.Tables.{schema_of, format_number}
use Rattle.space_sql_schema.specs.Trees.{meta_tree, entity_tree, volume_tree, cell_tree, availability_tree, subscription_tree, subscription_cell_tree, naming_tree, old_availability_tree, old_naming_tree}

-- ---- the columns of rows, in the order in which the tables declare them

abbrev pub meta_values : ℕ → ℕ → Row
meta_values format serial = Int (pos 1) ∷ Int (pos format) ∷ Int (pos serial) ∷ []

abbrev pub entity_values : EntityRow → Row
entity_values r = Int r.num ∷ Int r.kind ∷ Text r.id ∷ Text r.manager ∷ Int r.state ∷ Int r.version
    ∷ Int r.serial ∷ Text r.ovn ∷ Text r.url ∷ []

abbrev pub volume_values : VolumeRow → Row
volume_values r = Int r.entity ∷ Int r.place ∷ Int r.alt_lower ∷ Int r.alt_upper ∷ Int r.time_start
    ∷ Int r.time_end ∷ []

abbrev pub cell_values : CellRow → Row
cell_values r = Int r.entity ∷ Int r.volume ∷ Int r.place ∷ Text r.token ∷ Int r.lo ∷ Int r.hi ∷ []

-- The number of an availability.
abbrev pub availability_number : Availability → ℤ
availability_number Unknown = pos 0
availability_number Normal = pos 1
availability_number Down = pos 2

-- The values of a USS and the availability that it set.
abbrev pub availability_values : List ℕ × VersionedAvailability → Row
availability_values s = Text s.0 ∷ Int (availability_number s.1.0) ∷ Text s.1.1 ∷ []

abbrev pub sub_values : SubRow → Row
sub_values r = Int r.num ∷ Text r.id ∷ Text r.manager ∷ Int r.serial ∷ Text r.version ∷ Int r.notes
    ∷ Text r.url ∷ Int r.for_intents ∷ Int r.for_constraints ∷ Int r.alt_lower ∷ Int r.alt_upper
    ∷ Int r.time_start ∷ Int r.time_end ∷ []

abbrev pub sub_cell_values : SubCellRow → Row
sub_cell_values r = Int r.subscription ∷ Int r.place ∷ Text r.token ∷ Int r.lo ∷ Int r.hi ∷ []

-- The values of an entity's number and the number of the subscription that it references.
abbrev pub naming_values : ℤ → ℤ → Row
naming_values entity subscription = Int entity ∷ Int subscription ∷ []

-- The rows of `naming` of an entity, given the number of the subscription that it references, if
-- any.
abbrev pub naming_rows : ℤ → Option ℤ → List Row
naming_rows entity None = []
naming_rows entity (Some subscription) = naming_values entity subscription ∷ []

-- The columns at the positions where `sqlite` stores them. Position 0 of a row is its rowid: the
-- column `one` of `meta`, `num` of `entity` and `subscription`, and `entity` of `naming`. The
-- columns follow.

abbrev pub meta_columns : Row → Row
meta_columns r = column r 0 ∷ column r 2 ∷ column r 3 ∷ []

abbrev pub entity_columns : Row → Row
entity_columns r = column r 0 ∷ column r 2 ∷ column r 3 ∷ column r 4 ∷ column r 5 ∷ column r 6
    ∷ column r 7 ∷ column r 8 ∷ column r 9 ∷ []

abbrev pub sub_columns : Row → Row
sub_columns r = column r 0 ∷ column r 2 ∷ column r 3 ∷ column r 4 ∷ column r 5 ∷ column r 6
    ∷ column r 7 ∷ column r 8 ∷ column r 9 ∷ column r 10 ∷ column r 11 ∷ column r 12 ∷ column r 13
    ∷ []

abbrev pub six_columns : Row → Row
six_columns r = column r 1 ∷ column r 2 ∷ column r 3 ∷ column r 4 ∷ column r 5 ∷ column r 6 ∷ []

abbrev pub five_columns : Row → Row
five_columns r = column r 1 ∷ column r 2 ∷ column r 3 ∷ column r 4 ∷ column r 5 ∷ []

abbrev pub two_columns : Row → Row
two_columns r = column r 0 ∷ column r 2 ∷ []

abbrev pub three_columns : Row → Row
three_columns r = column r 1 ∷ column r 2 ∷ column r 3 ∷ []

-- ---- the airspace of the rows

-- A subscription and its rows in the two tables.
pub record SubGroup : Type 0 where
  pub row : SubRow
  pub cells : List SubCellRow
  pub sub : Sub

-- A subscription under its id.
abbrev pub sub_pair_of : SubGroup → ℕ × Sub
sub_pair_of g = (g.sub.id, g.sub)

-- Holds if the rows represent the subscription, and neither its serial nor its index exceeds the
-- serial of the airspace.
pub record IsSubGroup (serial : ℕ) (g : SubGroup) : Type 0 where
  pub spelt : SpellsSub g.row g.cells g.sub
  pub most : g.sub.serial ≤ serial
  pub index : g.sub.index ≤ serial

abbrev pub IsSubBefore : SubGroup → SubGroup → Type 0
IsSubBefore g h = int_cmp g.row.num h.row.num ≡ Less

-- An entity, its rows in the three tables, and the number of the subscription to which its row of
-- `naming` refers, if it has one.
pub record Group : Type 0 where
  pub row : EntityRow
  pub volumes : List VolumeRow
  pub cells : List CellRow
  pub naming : Option ℤ
  pub entity : Entity

-- An entity under its key.
abbrev pub pair_of : Group → EntityKey × Entity
pair_of g = (key_of g.entity, g.entity)

-- The rows of `naming` of an entity, at most one.
abbrev pub naming_rows_of : Group → List Row
naming_rows_of g = naming_rows g.row.num g.naming

-- Holds if the number and the id belong to one of the subscriptions.
abbrev pub IsSubNumber : List SubGroup → ℤ → ℕ → Type 0
IsSubNumber subs num id = Has {X = ℤ × ℕ} (map (λ s. (s.row.num, s.sub.id)) subs) (num, id)

-- Holds if the number in a row of `naming` is that of the subscription with the referenced id.
-- Without a row, no subscription is referenced.
abbrev pub Names : List SubGroup → Option ℤ → Option ℕ → Type 0
Names subs None None = ⊤
Names subs None (Some id) = ⊥
Names subs (Some num) None = ⊥
Names subs (Some num) (Some id) = IsSubNumber subs num id

-- Holds if the rows represent the entity, and its row of `naming` refers to the subscription that
-- it references. Its serial does not exceed that of the airspace.
pub record IsGroup (serial : ℕ) (subs : List SubGroup) (g : Group) : Type 0 where
  pub spelt : SpellsEntity g.row g.volumes g.cells (subscription_of g.entity.nature) g.entity
  pub names : Names subs g.naming (subscription_of g.entity.nature)
  pub most : g.entity.serial ≤ serial

abbrev pub IsBefore : Group → Group → Type 0
IsBefore g h = int_cmp g.row.num h.row.num ≡ Less

-- Holds if the texts of an availability are valid for their types.
pub record IsStated (s : List ℕ × VersionedAvailability) : Type 0 where
  pub uss : name_fault s.0 ≡ None
  pub version : ovn_fault s.1.1 ≡ None

-- Holds if the rowids of a table are numbers, and no two rows share one. `sqlite` stores its tables
-- so, but none of its clauses says so.
abbrev pub AreApart : List Row → Type 0
AreApart rows = (ids : List ℤ) × IsAscending (λ m n. int_cmp m n ≡ Less) ids
    × IsPermutation (map (λ n. Int n) ids) (map rowid rows)

-- The rows of `availability`.
abbrev pub availability_rows : Format → Database → List Row
availability_rows One db = db.trees availability_tree
availability_rows TwoUnindexed db = db.trees availability_tree
availability_rows Two db = db.trees availability_tree
availability_rows OldOne db = db.trees old_availability_tree
availability_rows OldTwoUnindexed db = db.trees old_availability_tree
availability_rows OldTwo db = db.trees old_availability_tree

-- The tree in the old order of a table that format 2 added, given its tree in the new order.
abbrev pub old_tree : ℕ → ℕ
old_tree tree = if tree == naming_tree then old_naming_tree else tree + 1

-- The rows of a table that format 2 added, given its tree in the new order. In format 1 there are
-- none.
abbrev pub later_rows : Format → Database → ℕ → List Row
later_rows One db tree = []
later_rows TwoUnindexed db tree = db.trees tree
later_rows Two db tree = db.trees tree
later_rows OldOne db tree = []
later_rows OldTwoUnindexed db tree = db.trees (old_tree tree)
later_rows OldTwo db tree = db.trees (old_tree tree)

-- Holds if the rowids of `availability` or `subscription_cell` fit the format. In the old order
-- they do not matter, since an upgrade inserts the rows anew.
abbrev pub AreFit : Format → List Row → Type 0
AreFit One rows = AreApart rows
AreFit TwoUnindexed rows = AreApart rows
AreFit Two rows = AreApart rows
AreFit OldOne rows = ⊤
AreFit OldTwoUnindexed rows = ⊤
AreFit OldTwo rows = ⊤

-- Holds if the tables are exactly those of the format, and they represent the airspace. The table
-- `meta` has its one row. The rows of `subscription` and `subscription_cell` form one group for
-- each subscription. Those of `entity`, `volume`, `cell` and `naming` form one group for each
-- entity. The rows of `availability` are what each USS has set. So in format 1 the airspace has no
-- subscription, and no entity references one.
pub record SpellsAs (format : Format) (db : Database) (a : Airspace) : Type 0 where
  pub schema : db.schema ≡ schema_of format
  pub meta : map meta_columns (db.trees meta_tree)
      ≡ meta_values (format_number format) a.serial ∷ []
  pub most : a.serial ≤ max_serial
  -- In ascending order of numbers.
  pub subs : List SubGroup
  pub subs_rising : IsAscending IsSubBefore subs
  pub each_sub : AllByRecursion (IsSubGroup a.serial) subs
  pub sub_rows : IsPermutation (map (λ g. sub_values g.row) subs)
      (map sub_columns (later_rows format db subscription_tree))
  pub sub_cells : IsPermutation (flat_map (λ g. map sub_cell_values g.cells) subs)
      (map five_columns (later_rows format db subscription_cell_tree))
  pub subs_kept : IsPermutation (map sub_pair_of subs) (entries a.subscriptions)
  -- In ascending order of numbers.
  pub groups : List Group
  pub rising : IsAscending IsBefore groups
  pub each : AllByRecursion (IsGroup a.serial subs) groups
  pub entities : IsPermutation (map (λ g. entity_values g.row) groups)
      (map entity_columns (db.trees entity_tree))
  pub volumes : IsPermutation (flat_map (λ g. map volume_values g.volumes) groups)
      (map six_columns (db.trees volume_tree))
  pub cells : IsPermutation (flat_map (λ g. map cell_values g.cells) groups)
      (map six_columns (db.trees cell_tree))
  pub namings : IsPermutation (flat_map naming_rows_of groups)
      (map two_columns (later_rows format db naming_tree))
  pub kept : IsPermutation (map pair_of groups) (entries a.entities)
  pub availabilities : IsPermutation (map availability_values (entries a.availabilities))
      (map three_columns (availability_rows format db))
  pub stated : AllByRecursion IsStated (entries a.availabilities)
  pub apart : AreApart (db.trees volume_tree) × AreApart (db.trees cell_tree)
      × AreFit format (availability_rows format db)
      × AreFit format (later_rows format db subscription_cell_tree)

-- Holds if the tables represent the airspace in format 2, the current format.
abbrev pub Spells : Database → Airspace → Type 0
Spells db a = SpellsAs Two db a
