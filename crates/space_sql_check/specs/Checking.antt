-- Definitions of the result of checking a database of format 2.
use Rattle.std.specs.Prelude.{◌≡◌, ℕ, List, [], ◌∷◌, map}
use Rattle.sqlite.specs.Effect.{Database, IsDatabase}
use Rattle.entity_core.specs.Airspace.{Airspace}
use Rattle.space_sql_schema.specs.Spelling.{SubGroup, Spells, meta_columns, meta_values}
use Rattle.space_sql_schema.specs.Tables.{dss_schema}
use Rattle.space_sql_schema.specs.Trees.{meta_tree}
use Rattle.space_sql_select.specs.Meta.{IsOtherFormat}
use Rattle.space_sql_load.specs.Checking.{loaded_airspace}
use Rattle.space_sql_check.specs.Parts.{AreSubs, HasEntities, HasSettings, AreAllIdsApart, any_value}
use Rattle.space_sql_check.specs.declared.pieces.Verdict.{Verdict}
use Rattle.space_sql_check.specs.declared.pieces.Verdict.TheVariants as verdict
use Rattle.space_sql_check.specs.declared.airspace.AirspaceCheck.{AirspaceCheck}
use Rattle.space_sql_check.specs.declared.airspace.AirspaceCheck.TheVariants.{Loaded, Valid, OtherFormat, Invalid}

-- Holds if the rows represent subscriptions, and entities that reference them, with serials up to
-- the given one.
pub record HasItems (serial : ℕ) (db : Database) : Type 0 where
  pub subs : List SubGroup
  pub are_subs : AreSubs serial any_value db subs
  pub entities : HasEntities serial subs any_value db

-- Holds if `availability` represents what USSs set, and rowids are different numbers.
pub record HasOthers (db : Database) : Type 0 where
  pub settings : HasSettings db
  pub apart : AreAllIdsApart db

-- Holds if the tables other than `meta` represent an airspace with the given serial.
pub record HasAll (serial : ℕ) (db : Database) : Type 0 where
  pub items : HasItems serial db
  pub others : HasOthers db

-- Holds if `meta` has one row, of format 2, with the given serial.
abbrev pub HasSerial : ℕ → Database → Type 0
HasSerial serial db = map meta_columns (db.trees meta_tree) ≡ meta_values 2 serial ∷ []

-- Holds if the result of the check in pieces is right for the database. At most one result is.
abbrev pub JudgesPieces : Database → Verdict → Type 0
JudgesPieces db verdict.Valid = (a : Airspace) × Spells db a
JudgesPieces db verdict.OtherFormat = IsOtherFormat db
JudgesPieces db verdict.Invalid = ((a : Airspace) → ¬ Spells db a) × ¬ IsOtherFormat db

-- Holds if the result of the check in pieces is right for a database with the schema of format 2,
-- whose rows obey it.
pub record JudgesSound (db : Database) (v : Verdict) : Type 0 where
  pub told : db.schema ≡ dss_schema → IsDatabase db → JudgesPieces db v

-- Holds if the result of the check is right for the database. `Loaded` has the airspace that the
-- tables represent. `Valid` says that they represent one, and the other results that they represent
-- none.
abbrev pub JudgesAirspace : Database → AirspaceCheck → Type 0
JudgesAirspace db (Loaded l) = Spells db (loaded_airspace l)
JudgesAirspace db Valid = (a : Airspace) × Spells db a
JudgesAirspace db OtherFormat = IsOtherFormat db
JudgesAirspace db Invalid = ((a : Airspace) → ¬ Spells db a) × ¬ IsOtherFormat db
