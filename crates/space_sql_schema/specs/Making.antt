-- Definitions of the effects of a statement in a transaction and of its end.
use Rattle.std.specs.Prelude.{◌≡◌, ℕ, ℤ, pos, nat_lt, if◌then◌else◌, true, List, [], ◌∷◌, map, IsTrue, Result, OnOk}
use Rattle.std.specs.List.{AllByRecursion}
use Rattle.sqlite_trees.specs.Tree.{Trees}
use Rattle.sqlite_schema.specs.declared.schema.Schema.{Schema}
use Rattle.sqlite_value.specs.Order.{Row}
use Rattle.sqlite_value.specs.declared.value.Value.TheVariants.{Int}
use Rattle.sqlite.specs.Effect.{Database, IsDatabase}
use Rattle.sqlite.specs.State.{State, Shows, HasCleanDisk, KeepsCommit, Survives}
use Rattle.sqlite.specs.declared.error.Error.{Error}
use Rattle.entity_core.specs.Airspace.{Airspace, empty_at}
use Rattle.space_sql_schema.specs.declared.format.Format.{Format}
use Rattle.space_sql_schema.specs.declared.format.Format.TheVariants.{One, Two}
use Rattle.space_sql_schema.specs.Tables.{no_schema, first_schema, unindexed_schema, second_schema, old_first_schema, schema_4}
use Rattle.space_sql_schema.specs.Spelling.{SpellsAs, meta_columns}
use Rattle.space_sql_schema.specs.Trees.{meta_tree, entity_tree, volume_tree, cell_tree, availability_tree, subscription_tree, subscription_cell_tree, naming_tree}

-- Holds if the database has exactly the tables of the schema, with these rows.
abbrev pub HasRows : Schema → Trees → Database → Type 0
HasRows schema rows db =
    (db.schema ≡ schema) × AllByRecursion (λ t. db.trees t.tree ≡ rows t.tree) schema.tables

-- Holds if the database has exactly the tables of the schema, and they are empty.
abbrev pub IsBare : Schema → Database → Type 0
IsBare schema db = HasRows schema (λ _. []) db

-- Holds if R relates the databases before and after the statements of an open transaction. Whatever
-- the result, the last commit stays. A crash leaves what it would have left before.
--
-- Example: a transaction over an empty file has created `meta`, and executes `CREATE TABLE entity`.
-- `old` shows the database with `meta` alone, `new` shows the one with both tables, and R relates
-- these two. Committed is still the database without a table, before and after. A crash before the
-- commit leaves that one.
pub record Steps {X : Type 0} (R : Database → Database → Type 0) (old new : State)
    (result : Result X Error) : Type 0 where
  pub done : HasCleanDisk new
      → OnOk result (R old.now new.now × Shows old new new.now old.committed true)
  pub kept : HasCleanDisk new → KeepsCommit old new
  pub survives : Survives old new (λ _. ⊥)

-- Holds if the statements lead from a database with A to one with B.
--
-- Example: `CREATE TABLE entity` leads from `IsBare schema_1` (only `meta`, without rows) to
-- `IsBare schema_2` (`meta` and `entity`, without rows). If A did not hold before, B is not
-- claimed.
abbrev pub Leads : {X : Type 0} → (A B : Database → Type 0) → State → State → Result X Error
    → Type 0
Leads A B old new result = Steps (λ before after. A before → B after) old new result

-- Holds if the database represents an empty airspace that was never changed.
abbrev pub SpellsEmptyAs : Format → Database → Type 0
SpellsEmptyAs format db = SpellsAs format db (empty_at 0)

abbrev pub SpellsEmpty : Database → Type 0
SpellsEmpty db = SpellsEmptyAs Two db

-- Holds if the database represents an empty airspace, and its rows obey `IsDatabase`, which opening
-- requires.
abbrev pub IsMade : Database → Type 0
IsMade db = IsDatabase db × SpellsEmpty db

-- Holds if the trees are those of a database with P whose rows obey its schema. A commit may have
-- left them.
abbrev pub AreOf : (P : Database → Type 0) → Trees → Type 0
AreOf P trees = (db : Database) × (trees ≡ db.trees) × IsDatabase db × P db

-- Holds if the visible database is committed.
abbrev pub IsSettled : State → Type 0
IsSettled s = IsTrue s.is_open × (s.committed ≡ s.now)

-- Holds if the visible database has no table.
abbrev pub HasNoTable : State → Type 0
HasNoTable s = s.now.schema ≡ no_schema

-- Holds if the visible database is committed, and represents an empty airspace if there was no
-- table before.
abbrev pub AreMade : State → State → Type 0
AreMade old new = (HasNoTable old → SpellsEmpty new.now) × IsSettled new

-- Holds if both the visible and the committed database are what was committed before.
abbrev pub IsUndone : State → State → Type 0
IsUndone old new = (new.now ≡ old.committed) × (new.committed ≡ old.committed)

-- The same as `AreMade`, for tables of format 1.
abbrev pub AreMadeFirst : State → State → Type 0
AreMadeFirst old new = (HasNoTable old → SpellsEmptyAs One new.now) × IsSettled new

-- Holds if the trees are those of an empty airspace, provided that there was no table before. A
-- commit can have left them. If there was a table before, nothing is claimed of the trees.
abbrev pub EmptyIfNoTable : State → Trees → Type 0
EmptyIfNoTable old trees = HasNoTable old → AreOf SpellsEmpty trees

-- ---- from format 1 to format 2

-- The rows of the tables of format 1, with the later tables empty.
abbrev pub first_rows : Trees → Trees
first_rows trees t = if nat_lt t subscription_tree then trees t else []

-- Holds if the statements add tables beside those of format 1, or create or drop an index. The rows
-- stay, whatever they are, and the new tables are empty.
abbrev pub AddsTables : (before after : Schema) → Database → Database → Type 0
AddsTables before after old new =
    (trees : Trees) → HasRows before (first_rows trees) old → HasRows after (first_rows trees) new

-- Holds if the statements drop tables or indexes. The rows of the other tables stay.
abbrev pub KeepsTables : (before after : Schema) → Database → Database → Type 0
KeepsTables before after old new =
    (trees : Trees) → HasRows before trees old → HasRows after trees new

-- The rows of the tables `meta`, `entity`, `volume` and `cell`, with the others empty.
abbrev pub four_rows : Trees → Trees
four_rows trees t = if nat_lt t availability_tree then trees t else []

-- Holds if the statements add tables beside `meta`, `entity`, `volume` and `cell`. The rows stay,
-- and the new tables are empty.
abbrev pub AddsToFour : (before after : Schema) → Database → Database → Type 0
AddsToFour before after old new =
    (trees : Trees) → HasRows before (four_rows trees) old → HasRows after (four_rows trees) new

-- Holds if the statements add all tables of format 2 that are missing. The new tables are empty.
abbrev pub AddsRest : Schema → Database → Database → Type 0
AddsRest before old new =
    (trees : Trees) → HasRows before (first_rows trees) old
    → HasRows second_schema (first_rows trees) new × IsDatabase new

-- The same for tables beside `meta`, `entity`, `volume` and `cell`.
abbrev pub AddsToCells : Database → Database → Type 0
AddsToCells old new =
    (trees : Trees) → HasRows schema_4 (four_rows trees) old
    → HasRows second_schema (four_rows trees) new × IsDatabase new

-- Holds if tables of format 1 in the old order became those of format 2 in the new order. The rows
-- of `meta`, `entity`, `volume` and `cell` stay, and the other tables are empty.
abbrev pub LaysAnew : Database → Database → Type 0
LaysAnew old new =
    (trees : Trees) → HasRows old_first_schema trees old
    → HasRows second_schema (four_rows trees) new × IsDatabase new

-- Holds if the statements add the index on `naming` to tables of format 2. All rows stay, whatever
-- they are.
abbrev pub AddsIndex : Database → Database → Type 0
AddsIndex old new =
    (trees : Trees) → HasRows unindexed_schema trees old
    → HasRows second_schema trees new × IsDatabase new

-- Holds if `meta` has one row, with this format and this serial.
abbrev pub HasMeta : ℕ → ℤ → List Row → Type 0
HasMeta format serial rows =
    map meta_columns rows ≡ (Int (pos 1) ∷ Int (pos format) ∷ Int serial ∷ []) ∷ []

-- Holds if the tables of format 1 have the rows of these trees, except that the format in `meta` is
-- 2. The other tables of format 2 are empty.
pub record HasUpgraded (trees : Trees) (serial : ℤ) (db : Database) : Type 0 where
  pub schema : db.schema ≡ second_schema
  pub meta : HasMeta 2 serial (db.trees meta_tree)
  pub entities : db.trees entity_tree ≡ trees entity_tree
  pub volumes : db.trees volume_tree ≡ trees volume_tree
  pub cells : db.trees cell_tree ≡ trees cell_tree
  pub availabilities : db.trees availability_tree ≡ trees availability_tree
  pub bare : (db.trees subscription_tree ≡ []) × (db.trees subscription_cell_tree ≡ [])
      × (db.trees naming_tree ≡ [])
  pub sound : IsDatabase db

-- Holds if the database is upgraded from these trees, when `meta` had format 1.
abbrev pub IsUpgraded : Trees → Database → Type 0
IsUpgraded trees db =
    (serial : ℤ) → HasMeta 1 serial (trees meta_tree) → HasUpgraded trees serial db

-- Holds if a statement sets the format to 2.
abbrev pub SetsFormat : Database → Database → Type 0
SetsFormat old new =
    (trees : Trees) → HasRows second_schema (first_rows trees) old → IsUpgraded trees new

-- Holds if statements upgrade tables of format 1 to format 2.
abbrev pub Upgrades : Database → Database → Type 0
Upgrades old new =
    (trees : Trees) → HasRows first_schema (first_rows trees) old → IsUpgraded trees new

-- Holds if the visible database is committed, and represents in format 2 the airspace that it
-- represented in format 1.
abbrev pub AreUpgraded : State → State → Type 0
AreUpgraded old new =
    ((a : Airspace) → SpellsAs One old.now a → SpellsAs Two new.now a) × IsSettled new

-- Holds if the trees are those of format 2 for the airspace that was represented in format 1. A
-- commit may have left them.
abbrev pub MayBeUpgraded : State → Trees → Type 0
MayBeUpgraded old trees =
    (a : Airspace) → SpellsAs One old.now a → AreOf (λ db. SpellsAs Two db a) trees
