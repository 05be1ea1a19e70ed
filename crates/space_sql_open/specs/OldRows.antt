-- Definitions of the rows that are taken out of tables in the old order.
use Rattle.std.specs.Prelude.{◌≡◌, ℕ, List, map, IsPermutation, Result, Ok, Err, Vec}
use Rattle.std.specs.Global.{Global}
use Rattle.std.specs.List.{AllByRecursion}
use Rattle.sqlite_value.specs.Order.{Row}
use Rattle.sqlite_trees.specs.Tree.{Trees}
use Rattle.sqlite.specs.Effect.{Database}
use Rattle.sqlite.specs.declared.error.Error.{Error}
use Rattle.space_rows.specs.declared.rows.SubRow.{SubRow}
use Rattle.space_rows.specs.declared.rows.SubCellRow.{SubCellRow}
use Rattle.space_sql_schema.specs.Spelling.{IsStated, availability_values, sub_values, sub_cell_values, sub_columns, five_columns, two_columns, three_columns}
use Rattle.space_sql_schema.specs.Trees.{old_subscription_tree, old_subscription_cell_tree, old_naming_tree, old_availability_tree}
use Rattle.space_sql_select.specs.AvailabilityRecord.{stated_by}
use Rattle.space_sql_select.specs.Rows.{AreRowsOf, IsWrittenSub, IsWrittenSubCell, IsWrittenNaming, values_of_naming}
use Rattle.space_sql_select.specs.declared.availability_record.AvailabilityRecord.{AvailabilityRecord}
use Rattle.space_sql_select.specs.declared.sub_rows.NamingRow.{NamingRow}
use Rattle.space_sql_open.specs.declared.old_rows.Aside.{Aside}
use Rattle.space_sql_open.specs.declared.open_fault.OpenFault.{OpenFault}
use Rattle.space_sql_open.specs.declared.open_fault.OpenFault.TheVariants.{NotADss, Version, Store}

-- ---- one table

abbrev pub record_values : AvailabilityRecord → Row
record_values s = availability_values (stated_by s)

abbrev pub IsWrittenRecord : AvailabilityRecord → Type 0
IsWrittenRecord s = IsStated (stated_by s)

-- Holds if the rows of a table are those of typed rows, in any order.
pub record HasAll {X : Type 0} (values : X → Row) (IsWritten : X → Type 0) (columns : Row → Row)
    (rows : List Row) : Type 0 where
  pub typed : List X
  pub written : AllByRecursion IsWritten typed
  pub same : IsPermutation (map values typed) (map columns rows)

-- Holds if these typed rows are those of a table, in any order.
abbrev pub AreAll : {X : Type 0} → (values : X → Row) (columns : Row → Row) → List Row → List X
    → Type 0
AreAll values columns rows typed = IsPermutation (map columns rows) (map values typed)

-- Holds if the rows of a table are read, and the database is unchanged.
abbrev pub ReadsAll : (Row → Row) → ℕ → Database → Database → Result (Vec Row Global) Error → Type 0
ReadsAll columns tree old new (Ok rows) =
    IsPermutation (map columns (old.trees tree)) rows.items × (new ≡ old)
ReadsAll columns tree old new (Err e) = Unit {0}

-- Holds if the typed rows are those of the rows, or the fault says that there are none.
abbrev pub IsTyped : {X : Type 0} → (X → Row) → (X → Type 0) → List Row
    → Result (Vec X Global) OpenFault → Type 0
IsTyped {X} values IsWritten rows (Ok typed) = AreRowsOf values IsWritten rows typed.items
IsTyped {X} values IsWritten rows (Err NotADss) =
    (typed : List X) → ¬ AreRowsOf values IsWritten rows typed
IsTyped {X} values IsWritten rows (Err Version) = ⊥
IsTyped {X} values IsWritten rows (Err Store) = Unit {0}

-- ---- taking rows out

-- Holds if the fault is right where P does not hold.
abbrev pub Lacks : Type 0 → OpenFault → Type 0
Lacks P NotADss = ¬ P
Lacks P Version = ⊥
Lacks P Store = Unit {0}

-- Holds if what is taken out is that of the tables, and the database is unchanged. After the fault
-- `NotADss` the tables are not as wanted.
abbrev pub Takes : {X : Type 0} → (Wants : Trees → Type 0) → (Holds : Trees → X → Type 0)
    → Database → Database → Result X OpenFault → Type 0
Takes Wants Holds old new (Ok x) = Holds old.trees x × (new ≡ old)
Takes Wants Holds old new (Err fault) = Lacks (Wants old.trees) fault

abbrev pub WantsSubs : Trees → Type 0
WantsSubs trees = HasAll sub_values IsWrittenSub sub_columns (trees old_subscription_tree)

abbrev pub HoldsSubs : Trees → Vec SubRow Global → Type 0
HoldsSubs trees v = AreAll sub_values sub_columns (trees old_subscription_tree) v.items

abbrev pub WantsCells : Trees → Type 0
WantsCells trees =
    HasAll sub_cell_values IsWrittenSubCell five_columns (trees old_subscription_cell_tree)

abbrev pub HoldsCells : Trees → Vec SubCellRow Global → Type 0
HoldsCells trees v =
    AreAll sub_cell_values five_columns (trees old_subscription_cell_tree) v.items

abbrev pub WantsNamings : Trees → Type 0
WantsNamings trees = HasAll values_of_naming IsWrittenNaming two_columns (trees old_naming_tree)

abbrev pub HoldsNamings : Trees → Vec NamingRow Global → Type 0
HoldsNamings trees v = AreAll values_of_naming two_columns (trees old_naming_tree) v.items

abbrev pub WantsSettings : Trees → Type 0
WantsSettings trees =
    HasAll record_values IsWrittenRecord three_columns (trees old_availability_tree)

abbrev pub HoldsSettings : Trees → Vec AvailabilityRecord Global → Type 0
HoldsSettings trees v = AreAll record_values three_columns (trees old_availability_tree) v.items

-- ---- taking rows out of several tables

abbrev pub Both : {X Y : Type 0} → (Trees → X → Type 0) → (Trees → Y → Type 0)
    → Trees → X × Y → Type 0
Both P Q trees both = P trees both.0 × Q trees both.1

abbrev pub WantsSubTables : Trees → Type 0
WantsSubTables trees = WantsSubs trees × WantsCells trees

abbrev pub HoldsSubTables : Trees → Vec SubRow Global × Vec SubCellRow Global → Type 0
HoldsSubTables = Both HoldsSubs HoldsCells

abbrev pub WantsOthers : Trees → Type 0
WantsOthers trees = WantsNamings trees × WantsSettings trees

abbrev pub HoldsOthers : Trees → Vec NamingRow Global × Vec AvailabilityRecord Global → Type 0
HoldsOthers = Both HoldsNamings HoldsSettings

abbrev pub WantsAside : Trees → Type 0
WantsAside trees = WantsSubTables trees × WantsOthers trees

-- Holds if these are the rows of the tables that are created anew.
abbrev pub HoldsAside : Trees → Aside → Type 0
HoldsAside trees a =
    HoldsSubTables trees (a.subs, a.cells) × HoldsOthers trees (a.namings, a.settings)
