-- Definitions of the result of checking a database.
use Rattle.sqlite.specs.Effect.{Database}
use Rattle.entity_core.specs.Airspace.{Airspace}
use Rattle.entity_maps.specs.Lists.{airspace_of}
use Rattle.space_sql_schema.specs.Spelling.{Spells}
use Rattle.space_sql_select.specs.Meta.{IsOtherFormat}
use Rattle.space_sql_load.specs.declared.table_check.LoadedAirspace.{LoadedAirspace}
use Rattle.space_sql_load.specs.declared.table_check.TableCheck.{TableCheck}
use Rattle.space_sql_load.specs.declared.table_check.TableCheck.TheVariants.{Valid, OtherFormat, Invalid}

-- The airspace that was loaded.
abbrev pub loaded_airspace : LoadedAirspace → Airspace
loaded_airspace l = airspace_of l.entities l.subscriptions l.availabilities l.serial

-- Holds if the result of the check is right for the database. Only one result is.
abbrev pub JudgesDatabase : Database → TableCheck → Type 0
JudgesDatabase db (Valid l) = Spells db (loaded_airspace l)
JudgesDatabase db OtherFormat = IsOtherFormat db
JudgesDatabase db Invalid = ((a : Airspace) → ¬ Spells db a) × ¬ IsOtherFormat db
