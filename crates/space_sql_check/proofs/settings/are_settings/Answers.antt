use Rattle.std.proofs.Common.{◌≡◌, ◌↔◌, List, Option, Some, None, Bool, true, false, IsTrue, refl, subst}
use Rattle.std.specs.Prelude.{MatchOption, is_some}
use Rattle.std.specs.FinMap.{empty}
use Rattle.sqlite.specs.Held.{state}
use Rattle.sqlite.specs.Order.{Row}
use Rattle.sqlite.specs.Effect.{Database}
use Rattle.entity_core.specs.Airspace.{Availabilities as Map}
use Rattle.entity_maps.specs.Availabilities.{availability_map}
use Rattle.entity_maps.specs.declared.availabilities.Availabilities.{Availabilities}
use Rattle.space_sql_load.specs.Gathering.{ReadsAvailabilities}
use Rattle.space_sql_load.specs.Showing.{ShowsSettings}
use Rattle.space_sql_check.specs.Parts.{HasSettings}
use Rattle.space_sql_check.proofs.Sequences.{reads_so}
use Rattle.space_sql_check.proofs.StoredSettings.{settings_read, settings_listed}
use Rattle.space_sql_check.proofs.settings.are_settings.Goals as goal

told : (db : Database) (rows : List Row) (o : Option Availabilities) (b : Bool) → b ≡ is_some o → MatchOption o ((m : Map) → ¬ ReadsAvailabilities rows empty m) (λ es. ReadsAvailabilities rows empty (availability_map es))
    → ShowsSettings db rows → IsTrue b ↔ HasSettings db
told db rows (Some es) true e h shows = ((λ _. settings_read db rows shows (availability_map es) h), (λ _. refl))
told db rows None false e h shows = ((λ no. absurd (let e = no in cc)), (λ has. absurd (h has.all (settings_listed db rows shows has))))
told db rows (Some es) false e h shows = absurd cc
told db rows None true e h shows = absurd cc

pub returns-clause-reads : goal.returns-clause-reads
returns-clause-reads g c =
    let rows = c.in_ok-rows.rows in
    reads_so (λ db rows. ShowsSettings db rows.items) (λ db b. IsTrue b ↔ HasSettings db) (state g.S.Store c.args.tx.now.conn.now) (state g.S.Store c.read_settings.new.tx.conn.now) rows _
    (λ db has shows. told db rows.items c.in_ok-settings_in.field-0 c.is_some.result c.is_some.ensures
    (subst (λ (l : List Row). MatchOption c.in_ok-settings_in.field-0 ((m : Map) → ¬ ReadsAvailabilities l empty m) (λ es. ReadsAvailabilities l empty (availability_map es))) c.as_slice.ensures.value c.in_ok-settings_in.ensures) shows) c.in_ok-rows.ensures.reads
