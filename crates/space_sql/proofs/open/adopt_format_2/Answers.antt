use Rattle.std.proofs.Common.{◌≡◌, Option, Some, None, Ok, refl, sym, subst}
use Rattle.std.specs.Prelude.{IfSome}
use Rattle.sqlite.specs.Effect.{Database}
use Rattle.sqlite.specs.Held.{state}
use Rattle.sqlite.specs.State.{HasCleanDisk}
use Rattle.entity_core.specs.Airspace.{Airspace}
use Rattle.space_sql_load.specs.Checking.{loaded_airspace}
use Rattle.space_sql_load.specs.declared.table_check.LoadedAirspace.{LoadedAirspace}
use Rattle.space_sql_schema.specs.Spelling.{Spells}
use Rattle.space_sql_open.specs.Opening.{ChecksWhole}
use Rattle.space_sql.specs.Load.{IsAllOf}
use Rattle.space_sql.proofs.Openings.{ok_is_no_fault}
use Rattle.space_sql.proofs.open.adopt_format_2.Goals as goal

-- The tables represent an airspace, whether or not it was loaded.
spelt : (db : Database) (o : Option LoadedAirspace) → ChecksWhole db (Ok o) → (a : Airspace) × Spells db a
spelt db (Some l) h = (loaded_airspace l, h)
spelt db None h = h

if_loaded : (o : Option LoadedAirspace) (P : LoadedAirspace → Type 0) → ((l : LoadedAirspace) → o ≡ Some l → P l) → IfSome o P
if_loaded (Some l) P f = f l refl
if_loaded None P f = tt

pub returns-in-Ok-clause-taken : goal.returns-in-Ok-clause-taken
returns-in-Ok-clause-taken g c = λ sound schema.
    let clean = subst (λ h. HasCleanDisk (state g.S.Store h)) c.space_over.ensures.same sound.clean in
    let it = spelt (state g.S.Store c.args.conn).now c.in-Ok.loaded (c.in-Ok.ensures.examines clean schema) in
    let rest = c.in-Ok.ensures.at_rest clean schema (ok_is_no_fault _ _) in
    (it.0, it.1, c.space_over.ensures.content sound rest.0 it.0 (subst (λ d. Spells d it.0) (sym rest.1) it.1))

pub returns-in-Ok-clause-all : goal.returns-in-Ok-clause-all
returns-in-Ok-clause-all g c = λ schema. if_loaded c.in-Ok.loaded (IsAllOf g.S.Store c.space_over.result) (λ l is. record {
  works = c.space_over.ensures.fresh.works;
  content = λ sound.
      let clean = subst (λ h. HasCleanDisk (state g.S.Store h)) c.space_over.ensures.same sound.clean in
      let db = (state g.S.Store c.args.conn).now in
      let it : Spells db (loaded_airspace l) = subst (λ o. ChecksWhole db (Ok o)) is (c.in-Ok.ensures.examines clean schema) in
      let rest = c.in-Ok.ensures.at_rest clean schema (ok_is_no_fault _ _) in
      c.space_over.ensures.content sound rest.0 (loaded_airspace l) (subst (λ d. Spells d (loaded_airspace l)) (sym rest.1) it);
})
