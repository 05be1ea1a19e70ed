-- Definitions of the results and effects of opening a database.
use Rattle.std.specs.Prelude.{◌≡◌, Option, Some, None, Result, Ok, Err}
use Rattle.sqlite_trees.specs.Tree.{Trees}
use Rattle.sqlite.specs.Effect.{Database, IsDatabase}
use Rattle.sqlite.specs.State.{State}
use Rattle.entity_core.specs.Airspace.{Airspace}
use Rattle.space_sql_select.specs.Meta.{IsOtherFormat}
use Rattle.space_sql_load.specs.Checking.{loaded_airspace}
use Rattle.space_sql_load.specs.declared.table_check.LoadedAirspace.{LoadedAirspace}
use Rattle.space_sql_schema.specs.declared.format.Format.{Format}
use Rattle.space_sql_schema.specs.declared.format.Format.TheVariants.{One, TwoUnindexed, Two, OldOne, OldTwoUnindexed, OldTwo}
use Rattle.space_sql_schema.specs.Making.{AreOf}
use Rattle.space_sql_schema.specs.Spelling.{Spells, SpellsAs}
use Rattle.space_sql_schema.specs.Tables.{schema_of}
use Rattle.space_sql_open.specs.declared.old_format.OldFormat.{OldFormat}
use Rattle.space_sql_open.specs.declared.old_format.OldFormat.TheVariants as old_format
use Rattle.space_sql_open.specs.declared.open_fault.OpenFault.{OpenFault}
use Rattle.space_sql_open.specs.declared.open_fault.OpenFault.TheVariants.{NotADss, Version, Store}

-- Holds if the fault is right for tables of a format. `NotADss` means that they represent no
-- airspace and `meta` gives no format other than the two. `Version` means that `meta` gives another
-- format.
abbrev pub Refuses : Format → Database → OpenFault → Type 0
Refuses format db NotADss = ((a : Airspace) → ¬ SpellsAs format db a) × ¬ IsOtherFormat db
Refuses format db Version = IsOtherFormat db
Refuses format db Store = Unit {0}

-- Holds if the result is right for tables of format 2: it is the airspace that they represent, or a
-- fault.
abbrev pub ChecksTables : Database → Result LoadedAirspace OpenFault → Type 0
ChecksTables db (Ok listed) = Spells db (loaded_airspace listed)
ChecksTables db (Err fault) = Refuses Two db fault

-- The same if the airspace may not have been loaded. Without it, the tables represent one.
abbrev pub ChecksWhole : Database → Result (Option LoadedAirspace) OpenFault → Type 0
ChecksWhole db (Ok (Some loaded)) = Spells db (loaded_airspace loaded)
ChecksWhole db (Ok None) = (a : Airspace) × Spells db a
ChecksWhole db (Err fault) = Refuses Two db fault

-- The format of tables that are upgraded.
abbrev pub format_before : OldFormat → Format
format_before old_format.One = One
format_before old_format.TwoUnindexed = TwoUnindexed
format_before old_format.OldOne = OldOne
format_before old_format.OldTwoUnindexed = OldTwoUnindexed
format_before old_format.OldTwo = OldTwo

-- Holds if the result is right for tables of the old format. After `Ok`, they represented an
-- airspace, and the upgraded tables represent it in format 2.
abbrev pub UpgradesFormat : OldFormat → Database → Database → Result (Unit {0}) OpenFault → Type 0
UpgradesFormat from old new (Ok x) =
    (a : Airspace) × SpellsAs (format_before from) old a × Spells new a × IsDatabase new
UpgradesFormat from old new (Err fault) = Refuses (format_before from) old fault

-- Holds if, when the tables were of the old format, they represented an airspace, and the trees are
-- those of tables of format 2 that represent it. A commit may have left them.
abbrev pub MayHaveUpgraded : OldFormat → State → Trees → Type 0
MayHaveUpgraded from old trees =
    old.now.schema ≡ schema_of (format_before from)
    → (a : Airspace) × SpellsAs (format_before from) old.now a × AreOf (λ db. Spells db a) trees
