-- Proofs that the check of the rows is right for the database.
use Rattle.std.proofs.Common.{◌≡◌, Ok, Err, Result, IfOk}
use Rattle.sqlite.specs.Effect.{Database}
use Rattle.sqlite.specs.State.{State}
use Rattle.sqlite.specs.declared.error.Error.{Error}
use Rattle.space_sql_schema.specs.Tables.{dss_schema}
use Rattle.space_sql_load.specs.declared.tables.Tables.{Tables}
use Rattle.space_sql_load.specs.declared.table_check.TableCheck.{TableCheck}
use Rattle.space_sql_load.specs.declared.table_check.TableCheck.TheVariants.{Valid, OtherFormat, Invalid}
use Rattle.space_sql_select.specs.Reading.{Reads}
use Rattle.space_sql_select.proofs.Metas.{other_database, other_rows}
use Rattle.space_sql_load.specs.Showing.{ShowsTables}
use Rattle.space_sql_load.specs.Gathering.{Judges}
use Rattle.space_sql_load.specs.Checking.{JudgesDatabase, loaded_airspace}
use Rattle.space_sql_load.proofs.Junction.{spelt_if_listed, listed_if_spelt}

pub judges_database : (db : Database) (t : Tables) (r : Result TableCheck Error) → IfOk r (Judges t) → db.schema ≡ dss_schema → ShowsTables db t → IfOk r (JudgesDatabase db)
judges_database db t (Err e) h has read = tt
judges_database db t (Ok (Valid l)) h has read = spelt_if_listed db t (loaded_airspace l) has read h
judges_database db t (Ok OtherFormat) h has read = other_database db t.metas.items read.metas h
judges_database db t (Ok Invalid) h has read = ((λ a p. h.0 a (listed_if_spelt db t a has read p)), (λ o. h.1 (other_rows db t.metas.items read.metas o)))

-- The same within a transaction.
pub reads_database : (old new : State) (t : Tables) (r : Result TableCheck Error) → IfOk r (Judges t) → Reads ShowsTables old new (Ok t) → Reads JudgesDatabase old new r
reads_database old new t (Ok v) h p = record { answer = λ clean has. judges_database old.now t (Ok v) h has (p.answer clean has); same = p.same; kept = p.kept; survives = p.survives }
reads_database old new t (Err e) h p = record { answer = λ clean. tt; same = λ clean. tt; kept = p.kept; survives = p.survives }
