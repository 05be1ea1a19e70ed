-- Definitions of the rows of tables that were created anew.
use Rattle.std.specs.Prelude.{◌≡◌, ℤ, List, [], ◌++◌, Result, Ok, Err, OnOk, Vec}
use Rattle.std.specs.Global.{Global}
use Rattle.sqlite_trees.specs.Tree.{Trees}
use Rattle.sqlite.specs.Effect.{Database, IsDatabase}
use Rattle.sqlite.specs.State.{State, HasCleanDisk, KeepsCommit, Survives}
use Rattle.sqlite.specs.declared.error.Error.{Error}
use Rattle.space_rows.specs.declared.rows.SubRow.{SubRow}
use Rattle.space_rows.specs.declared.rows.SubCellRow.{SubCellRow}
use Rattle.space_sql_schema.specs.declared.format.Format.TheVariants.{OldOne, OldTwoUnindexed}
use Rattle.space_sql_schema.specs.Making.{HasMeta, HasRows, IsUpgraded}
use Rattle.space_sql_schema.specs.Spelling.{sub_values, sub_cell_values, sub_columns, five_columns, two_columns, three_columns}
use Rattle.space_sql_schema.specs.Tables.{dss_schema, old_first_schema, old_unindexed_schema}
use Rattle.space_sql_schema.specs.Trees.{meta_tree, entity_tree, volume_tree, cell_tree, availability_tree, subscription_tree, subscription_cell_tree, naming_tree}
use Rattle.space_sql_select.specs.Rows.{values_of_naming}
use Rattle.space_sql_select.specs.declared.availability_record.AvailabilityRecord.{AvailabilityRecord}
use Rattle.space_sql_select.specs.declared.sub_rows.NamingRow.{NamingRow}
use Rattle.space_sql_write.specs.Layout.{AreRows}
use Rattle.space_sql_open.specs.OldRows.{HoldsAside, HoldsSettings, record_values}
use Rattle.space_sql_open.specs.Opening.{Refuses}
use Rattle.space_sql_open.specs.declared.old_rows.Aside.{Aside}
use Rattle.space_sql_open.specs.declared.open_fault.OpenFault.{OpenFault}
use Rattle.space_sql_open.specs.declared.open_fault.OpenFault.TheVariants.{Store}

-- The rows of the tables that are created anew.
pub record Listed : Type 0 where
  pub subs : List SubRow
  pub cells : List SubCellRow
  pub namings : List NamingRow
  pub settings : List AvailabilityRecord

abbrev pub nothing : Listed
nothing = record { subs = []; cells = []; namings = []; settings = [] }

abbrev pub listed : Aside → Listed
listed a =
    record {
      subs = a.subs.items;
      cells = a.cells.items;
      namings = a.namings.items;
      settings = a.settings.items;
    }

-- ---- further rows

abbrev pub with_subs : List SubRow → Listed → Listed
with_subs rows l = record l { subs = l.subs ++ rows }

abbrev pub with_cells : List SubCellRow → Listed → Listed
with_cells rows l = record l { cells = l.cells ++ rows }

abbrev pub with_namings : List NamingRow → Listed → Listed
with_namings rows l = record l { namings = l.namings ++ rows }

abbrev pub with_settings : List AvailabilityRecord → Listed → Listed
with_settings rows l = record l { settings = l.settings ++ rows }

-- The rows with those of the tables that format 2 added.
abbrev pub with_later : Listed → Listed → Listed
with_later more l = with_namings more.namings (with_cells more.cells (with_subs more.subs l))

-- ---- databases

-- Holds if R relates the databases before and after statements in a transaction, of which there can
-- be none. Whatever the result, the last commit stays. A crash leaves what it would have left
-- before.
pub record Carries {X : Type 0} (R : Database → Database → Type 0) (old new : State)
    (result : Result X Error) : Type 0 where
  pub done : HasCleanDisk new → OnOk result (R old.now new.now)
  pub kept : HasCleanDisk new → KeepsCommit old new
  pub survives : Survives old new (λ _. ⊥)

-- Holds if the tables are those of format 2, in the new order. The tables `meta`, `entity`,
-- `volume` and `cell` have the rows of these trees, and the others these rows, in any order.
pub record HasListed (four : Trees) (l : Listed) (db : Database) : Type 0 where
  pub schema : db.schema ≡ dss_schema
  pub meta : db.trees meta_tree ≡ four meta_tree
  pub entities : db.trees entity_tree ≡ four entity_tree
  pub volumes : db.trees volume_tree ≡ four volume_tree
  pub cells : db.trees cell_tree ≡ four cell_tree
  pub settings : AreRows record_values three_columns l.settings (db.trees availability_tree)
  pub subs : AreRows sub_values sub_columns l.subs (db.trees subscription_tree)
  pub sub_cells : AreRows sub_cell_values five_columns l.cells (db.trees subscription_cell_tree)
  pub namings : AreRows values_of_naming two_columns l.namings (db.trees naming_tree)
  pub sound : IsDatabase db

-- Holds if the statements add rows to tables that were created anew.
abbrev pub Puts : (Listed → Listed) → Database → Database → Type 0
Puts change old new =
    (four : Trees) (l : Listed) → HasListed four l old → HasListed four (change l) new

-- Holds if tables of format 1 in the old order became those of format 2 in the new order, with
-- these rows in `availability`. The format in `meta` stays.
abbrev pub RelaysFirst : List AvailabilityRecord → Database → Database → Type 0
RelaysFirst settings old new =
    (trees : Trees) → HasRows old_first_schema trees old
    → HasListed trees (with_settings settings nothing) new

-- Holds if tables of format 2 in the old order became those of the new order, with these rows in
-- `availability`. The tables that format 2 added are empty.
abbrev pub RelaysSettings : List AvailabilityRecord → Database → Database → Type 0
RelaysSettings settings old new =
    (trees : Trees) → HasRows old_unindexed_schema trees old
    → HasListed trees (with_settings settings nothing) new

-- The same with these rows in all tables that were created anew.
abbrev pub RelaysAll : Listed → Database → Database → Type 0
RelaysAll rows old new =
    (trees : Trees) → HasRows old_unindexed_schema trees old → HasListed trees rows new

-- The same as `RelaysFirst`, and the format in `meta` is set to 2.
abbrev pub RelaysFormat : List AvailabilityRecord → Database → Database → Type 0
RelaysFormat settings old new =
    (trees : Trees) → HasRows old_first_schema trees old
    → (mid : Database) × HasListed trees (with_settings settings nothing) mid
    × IsUpgraded mid.trees new

-- ---- steps of an upgrade

-- Holds if `meta` says format 1, and these are the rows of `availability`. The database is
-- unchanged.
abbrev pub TakesFirst : Database → Database → Result (Vec AvailabilityRecord Global) OpenFault
    → Type 0
TakesFirst old new (Ok settings) =
    ((serial : ℤ) × HasMeta 1 serial (old.trees meta_tree))
    × HoldsSettings old.trees settings × (new ≡ old)
TakesFirst old new (Err fault) = Refuses OldOne old fault

-- Holds if `meta` says format 2, and these are the rows of the tables that are created anew. The
-- database is unchanged.
abbrev pub TakesSecond : Database → Database → Result Aside OpenFault → Type 0
TakesSecond old new (Ok aside) =
    ((serial : ℤ) × HasMeta 2 serial (old.trees meta_tree))
    × HoldsAside old.trees aside × (new ≡ old)
TakesSecond old new (Err fault) = Refuses OldTwoUnindexed old fault

-- Holds if tables of format 1 were created anew with these rows, and have format 2.
abbrev pub MovesFirst : List AvailabilityRecord → Database → Database → Result (Unit {0}) OpenFault
    → Type 0
MovesFirst settings old new (Ok x) =
    (mid : Database) × HasListed old.trees (with_settings settings nothing) mid
    × IsUpgraded mid.trees new
MovesFirst settings old new (Err fault) = fault ≡ Store

-- Holds if tables of format 2 were created anew with these rows.
abbrev pub MovesSecond : Listed → Database → Database → Result (Unit {0}) OpenFault → Type 0
MovesSecond rows old new (Ok x) = HasListed old.trees rows new
MovesSecond rows old new (Err fault) = fault ≡ Store

-- Holds if the index on `naming` was dropped, and all rows stay.
abbrev pub Unindexes : Database → Database → Result (Unit {0}) OpenFault → Type 0
Unindexes old new (Ok x) = HasRows old_unindexed_schema old.trees new
Unindexes old new (Err fault) = fault ≡ Store
