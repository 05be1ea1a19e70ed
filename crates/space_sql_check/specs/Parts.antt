-- Definitions of what the rows with certain numbers represent.
use Rattle.std.specs.Prelude.{◌≡◌, ℕ, ℤ, pos, negsuc, ◌-◌, ◌^◌, Bool, true, not, ◌&&◌, List, [], map, filter, IsPermutation, Option, MatchOption, Vec}
use Rattle.std.specs.List.{AllByRecursion, flat_map}
use Rattle.std.specs.Global.{Global}
use Rattle.std.specs.FinMap.{entries}
use Rattle.std.specs.declared.cmp.Ordering.TheVariants.{Less}
use Rattle.sqlite_value.specs.declared.value.Value.{Value}
use Rattle.sqlite_value.specs.declared.value.Value.TheVariants.{Int}
use Rattle.sqlite_value.specs.declared.keys.Collation.TheVariants.{Binary}
use Rattle.sqlite_value.specs.Order.{Row, column}
use Rattle.sqlite_sql.specs.declared.ops.BinaryOp.TheVariants.{Compare}
use Rattle.sqlite_sql.specs.declared.ops.CompareOp.TheVariants.{Gt, Le}
use Rattle.sqlite_sql.specs.Ops.{binary, is_true}
use Rattle.sqlite_trees.specs.Tree.{IsAscending}
use Rattle.sqlite.specs.Effect.{Database}
use Rattle.entity_core.specs.Airspace.{Availabilities}
use Rattle.space_sql_schema.specs.Spelling.{SubGroup, IsSubGroup, IsSubBefore, Group, IsGroup, IsBefore, IsStated, AreApart, entity_values, volume_values, cell_values, naming_rows_of, sub_values, sub_cell_values, availability_values, three_columns}
use Rattle.space_sql_schema.specs.Trees.{availability_tree}
use Rattle.space_sql_load.specs.declared.naming.Numbered.{Numbered}
use Rattle.space_sql_load.specs.declared.tables.EntityTables.{EntityTables}
use Rattle.space_sql_load.specs.Gathering.{numbered}
use Rattle.space_sql_check.specs.declared.source.Source.{Source}
use Rattle.space_sql_check.specs.declared.source.Source.TheVariants.{Entities, Volumes, Cells, Namings, Subscriptions, SubCells, VolumeIds, CellIds, SettingIds, SubCellIds}
use Rattle.space_sql_check.specs.Source.{tree_of, columns_of, Typed, values_of, order_of}

-- ---- numbers

-- Returns true if the value is greater than `over` and at most `end`, in the order of `sqlite`.
abbrev pub is_within : ℤ → ℤ → Value → Bool
is_within over end v =
    is_true (binary (Compare Gt Binary) v (Int over))
    && is_true (binary (Compare Le Binary) v (Int end))

-- The min and the max number of 64 bits.
abbrev pub least : ℤ
least = negsuc (2 ^ 63 - 1)

abbrev pub greatest : ℤ
greatest = pos (2 ^ 63 - 1)

-- Returns true for each value.
abbrev pub any_value : Value → Bool
any_value v = true

-- ---- rows

-- Returns the rows of a table with a number that passes the test, by the columns that are read.
abbrev pub rows_where : (Value → Bool) → Source → Database → List Row
rows_where keep s db = filter (λ c. keep (column c 0)) (map (columns_of s) (db.trees (tree_of s)))

-- Holds if these are the rows of the table with a number in the range. If they are the values of
-- typed rows in ascending order, they are in that order.
pub record ShowsWithin (over end : ℤ) (s : Source) (db : Database) (rows : List Row) : Type 0 where
  pub all : IsPermutation (rows_where (is_within over end) s db) rows
  pub rising : (xs : List (Typed s)) → IsAscending (λ x y. order_of s x y ≡ Less) xs
      → IsPermutation (map (values_of s) xs) (rows_where (is_within over end) s db)
      → rows ≡ map (values_of s) xs

-- Holds if each row of the table has a number greater than the min one of 64 bits, up to the max
-- one.
abbrev pub HasNoneOutside : Source → Database → Type 0
HasNoneOutside s db = rows_where (λ v. not (is_within least greatest v)) s db ≡ []

-- Holds if these are the rows of the four tables of entities with a number in the range.
pub record ShowsEntityTables (over end : ℤ) (db : Database) (t : EntityTables) : Type 0 where
  pub entities : ShowsWithin over end Entities db t.entities.items
  pub volumes : ShowsWithin over end Volumes db t.volumes.items
  pub cells : ShowsWithin over end Cells db t.cells.items
  pub namings : ShowsWithin over end Namings db t.namings.items

-- Holds if no row of the four tables of entities has a number outside 64 bits.
pub record HasNoOtherEntities (db : Database) : Type 0 where
  pub entities : HasNoneOutside Entities db
  pub volumes : HasNoneOutside Volumes db
  pub cells : HasNoneOutside Cells db
  pub namings : HasNoneOutside Namings db

-- Holds if no row of the two tables of subscriptions has a number outside 64 bits.
pub record HasNoOtherSubs (db : Database) : Type 0 where
  pub subscriptions : HasNoneOutside Subscriptions db
  pub cells : HasNoneOutside SubCells db

-- ---- subscriptions

-- Holds if the rows with such numbers represent these subscriptions, in ascending order of numbers.
pub record AreSubs (serial : ℕ) (keep : Value → Bool) (db : Database) (subs : List SubGroup)
    : Type 0 where
  pub rising : IsAscending IsSubBefore subs
  pub each : AllByRecursion (IsSubGroup serial) subs
  pub rows : IsPermutation (map (λ g. sub_values g.row) subs) (rows_where keep Subscriptions db)
  pub cells : IsPermutation (flat_map (λ g. map sub_cell_values g.cells) subs)
      (rows_where keep SubCells db)

-- Returns the numbers and the ids of subscriptions.
abbrev pub numbers_of : List SubGroup → List Numbered
numbers_of subs = map (λ g. numbered g.row g.sub) subs

-- Returns the numbers without the ids.
abbrev pub nums_of : List Numbered → List ℤ
nums_of numbers = map (λ n. n.num) numbers

-- Holds if the rows with such numbers represent subscriptions with these numbers and ids.
pub record HasSubs (serial : ℕ) (keep : Value → Bool) (db : Database) (numbers : List Numbered)
    : Type 0 where
  pub subs : List SubGroup
  pub are : AreSubs serial keep db subs
  pub numbers_are : numbers ≡ numbers_of subs

-- Holds if the result is the numbers and ids of the subscriptions, or `None` if the rows represent
-- none.
abbrev pub FindsSubs : ℕ → (Value → Bool) → Database → Option (Vec Numbered Global) → Type 0
FindsSubs serial keep db o =
    MatchOption o ((subs : List SubGroup) → ¬ AreSubs serial keep db subs)
    (λ numbers. HasSubs serial keep db numbers.items)

-- ---- entities

-- Holds if the rows with such numbers represent these entities, in ascending order of numbers, and
-- each of them references one of the subscriptions or none.
pub record AreEntities (serial : ℕ) (subs : List SubGroup) (keep : Value → Bool) (db : Database)
    (groups : List Group) : Type 0 where
  pub rising : IsAscending IsBefore groups
  pub each : AllByRecursion (IsGroup serial subs) groups
  pub rows : IsPermutation (map (λ g. entity_values g.row) groups) (rows_where keep Entities db)
  pub volumes : IsPermutation (flat_map (λ g. map volume_values g.volumes) groups)
      (rows_where keep Volumes db)
  pub cells : IsPermutation (flat_map (λ g. map cell_values g.cells) groups)
      (rows_where keep Cells db)
  pub namings : IsPermutation (flat_map naming_rows_of groups) (rows_where keep Namings db)

-- Holds if the rows with such numbers represent entities.
abbrev pub HasEntities : ℕ → List SubGroup → (Value → Bool) → Database → Type 0
HasEntities serial subs keep db = (groups : List Group) × AreEntities serial subs keep db groups

-- Holds if these are the numbers and ids of the subscriptions, in ascending order of numbers.
abbrev pub AreNumbered : List SubGroup → List Numbered → Type 0
AreNumbered subs numbers = (numbers ≡ numbers_of subs) × IsAscending IsSubBefore subs

-- ---- the other tables

-- Holds if the rows of `availability` represent what USSs set.
pub record HasSettings (db : Database) : Type 0 where
  pub all : Availabilities
  pub rows : IsPermutation (map availability_values (entries all))
      (map three_columns (db.trees availability_tree))
  pub stated : AllByRecursion IsStated (entries all)

-- Holds if the source is the rowids of a table.
abbrev pub IsOfIds : Source → Type 0
IsOfIds VolumeIds = Unit {0}
IsOfIds CellIds = Unit {0}
IsOfIds SettingIds = Unit {0}
IsOfIds SubCellIds = Unit {0}
IsOfIds _ = ⊥

-- Holds if the rowids of the table are different numbers.
abbrev pub AreIdsApart : Source → Database → Type 0
AreIdsApart s db = AreApart (db.trees (tree_of s))

-- Holds if that is so for each table whose key is not a number.
abbrev pub AreAllIdsApart : Database → Type 0
AreAllIdsApart db =
    AreIdsApart VolumeIds db × AreIdsApart CellIds db × AreIdsApart SettingIds db
    × AreIdsApart SubCellIds db
