-- Definitions of what an opening finds, by the content of the log and of the database file.
use Rattle.std.specs.Prelude.{◌≡◌, ◌≢◌, ◌⊎◌, [], IsTrue, false}
use Rattle.sqlite_trees.specs.Tree.{Trees}
use Rattle.sqlite.specs.Recovery.{Image}
use Rattle.sqlite.specs.Effect.{Database, IsDatabase}
use Rattle.sqlite.specs.Files.{AreFoundIn, HoldsDatabase, IsEmpty, IsNothing}
use Rattle.sqlite.specs.Start.{FindsIn}
use Rattle.sqlite.specs.State.{State, HasCleanDisk, IsLive}
use Rattle.entity_core.specs.Airspace.{Airspace, empty_at}
use Rattle.space_core.specs.Space.{IsContent}
use Rattle.space_core.specs.declared.space.Space.{Ghosts}
use Rattle.space_sql_schema.specs.Spelling.{SpellsAs}
use Rattle.space_sql_schema.specs.Tables.{schema_of}
use Rattle.space_sql_schema.specs.declared.format.Format.{Format}
use Rattle.space_sql_schema.specs.declared.format.Format.TheVariants.{Two}
use Rattle.space_sql_open.specs.Opening.{Refuses}
use Rattle.space_sql_open.specs.declared.open_fault.OpenFault.{OpenFault}
use Rattle.space_sql_open.specs.declared.open_fault.OpenFault.TheVariants.{Store}
use Rattle.space_sql.specs.Holding.{SqlSpaceModel}
use Rattle.space_sql.specs.OpenResult.{is_first}

-- The tables of a format, with these rows.
abbrev pub tables_of : Format → Trees → Database
tables_of format db = record { schema = schema_of format; trees = db }

-- Holds if the trees are exactly those of the tables of a format, and represent the airspace.
abbrev pub KeepsAs : Format → Trees → Airspace → Type 0
KeepsAs format db a = IsDatabase (tables_of format db) × SpellsAs format (tables_of format db) a

-- Holds if the files hold exactly the tables of a format, with any valid rows.
abbrev pub HasTables : Format → Image → Trees → Type 0
HasTables format image db = HoldsDatabase image db × IsDatabase (tables_of format db)

-- Holds if the files hold exactly the tables of a format, which represent the airspace.
abbrev pub FilesSpell : Format → Image → Airspace → Type 0
FilesSpell format image a = (db : Trees) × HoldsDatabase image db × KeepsAs format db a

-- Holds if the files are those of a database that was not made yet, and an opening finds no table
-- in them: the database file has no byte, or is what an opening left of its first page.
abbrev pub AreBlank : Image → Type 0
AreBlank image = IsNothing image × ((db : Trees) → AreFoundIn image db → IsEmpty db)

-- Holds if an opening of the files finds no table: no database was made in them yet, or they hold a
-- database without a table. A ruined file is not unmade.
abbrev pub AreUnmade : Image → Type 0
AreUnmade image = AreBlank image ⊎ ((db : Trees) × HoldsDatabase image db × IsEmpty db)

-- States that a database file without a byte is unmade, whatever its log holds.
abbrev pub NewIsUnmade : Type 0
NewIsUnmade = (image : Image) → image.db ≡ [] → AreUnmade image

-- Holds if the connection is as it was opened over files with this content.
pub record IsOpenedOver (image : Image) (s : State) : Type 0 where
  pub is_open : IsTrue s.is_open
  pub settled : s.now ≡ s.committed
  pub live : IsLive s
  pub found : FindsIn image s

-- Holds if `IsOpenedOver` holds while the disk has returned what was written.
abbrev pub IsOver : Image → State → Type 0
IsOver image s = HasCleanDisk s → IsOpenedOver image s

-- Holds if a space adopted over files with this content holds exactly the airspace represented
-- there, or an empty one if there was no table. If it holds an airspace, it is whole. The space
-- reports whether the tables were of format 1. New tables were not.
pub record FindsSpelt {S : Type 0} (image : Image) (space : Ghosts (SqlSpaceModel S))
    (k : SqlSpaceModel S) : Type 0 where
  pub spelt : space.is_sound k → (format : Format) (a : Airspace) → FilesSpell format image a
      → IsContent space.holds k a
  pub new : space.is_sound k → AreUnmade image → IsContent space.holds k (empty_at 0)
  pub whole : space.is_sound k → (a : Airspace) → space.holds k a → space.is_whole k
  pub upgraded : space.is_sound k → (format : Format) (a : Airspace)
      → FilesSpell format image a → k.upgraded ≡ is_first format
  pub made : space.is_sound k → AreUnmade image → k.upgraded ≡ false

-- Holds if the fault is right for a connection over files with this content. Whatever a crash
-- leaves represents the same airspace, in its format or in format 2. If there was no table, there
-- is none, or the tables of an empty airspace. After `NotADss` and `Version`, a crash leaves what
-- was found.
pub record RefusesFound (image : Image) (back : State) (fault : OpenFault) : Type 0 where
  pub due : HasCleanDisk back → (format : Format) (db : Trees) → HasTables format image db
      → Refuses format (tables_of format db) fault
  pub new : HasCleanDisk back → AreUnmade image → fault ≡ Store
  pub spelt : HasCleanDisk back → (format : Format) (a : Airspace) → FilesSpell format image a
      → (db : Trees) → back.may_leave db → KeepsAs format db a ⊎ KeepsAs Two db a
  pub unmade : HasCleanDisk back → AreUnmade image
      → (db : Trees) → back.may_leave db → IsEmpty db ⊎ KeepsAs Two db (empty_at 0)
  pub unwritten : HasCleanDisk back → fault ≢ Store
      → (db : Trees) → back.may_leave db → AreFoundIn image db
