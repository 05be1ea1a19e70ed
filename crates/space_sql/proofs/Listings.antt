-- Proofs that the loaded airspace is all that a space holds.
use Rattle.std.proofs.Common.{◌≡◌, Ok, Err, Result, IfOk, sym, subst, ◌∙◌}
use Rattle.std.specs.Prelude.{Bool, false}
use Rattle.sqlite_trees.specs.declared.store.Store.{Ghosts}
use Rattle.sqlite.specs.Held.{Held, state}
use Rattle.sqlite.specs.State.{HasCleanDisk}
use Rattle.sqlite.specs.declared.error.Error.{Error}
use Rattle.space_core.specs.declared.space.SpaceFault.{SpaceFault}
use Rattle.space_core.specs.Space.{is_broken_after}
use Rattle.space_sql_load.specs.declared.table_check.LoadedAirspace.{LoadedAirspace}
use Rattle.space_sql_load.specs.Checking.{loaded_airspace}
use Rattle.space_sql_schema.specs.Spelling.{Spells}
use Rattle.space_sql.specs.Holding.{IsKeeping, SqlSpaceModel}
use Rattle.space_sql.specs.Load.{IsAllOf}
use Rattle.space_sql.specs.Settling.{Settles}
use Rattle.space_sql.proofs.Outcomes.{spelt_alone, spelt_is_held}

pub all_settled : {S : Type 0} (g : Ghosts S) (new : SqlSpaceModel S) {mid : Held S} {was : Bool} (told : Result LoadedAirspace Error) (r : Result LoadedAirspace SpaceFault) → was ≡ false
    → (HasCleanDisk (state g mid) → IfOk told (λ l. Spells (state g mid).now (loaded_airspace l))) → Settles g mid new.conn told r → IsKeeping (state g new.conn) new.broken → new.broken ≡ is_broken_after was r
    → IfOk r (IsAllOf g new)
all_settled {S} g new {mid} {was} (Ok x) (Ok y) works spelt to keeping breaks = record {
  works = breaks ∙ works;
  content = λ sound.
      let is : x ≡ y = let e = to.passes.0 in cc in
      let seen = subst (λ (h : Held S). HasCleanDisk (state g h) → Spells (state g h).now (loaded_airspace x)) (sym to.passes.1) spelt in
      let spells = subst (λ l. Spells (state g new.conn).now (loaded_airspace l)) is (seen sound.clean) in
      let is_open = sound.live (breaks ∙ works) in
      record { held = spelt_is_held (state g new.conn) keeping.rests is_open (loaded_airspace y) spells; only = λ a. spelt_alone (state g new.conn) keeping.rests is_open (loaded_airspace y) a spells };
}
all_settled {S} g new {mid} {was} (Ok x) (Err e) works spelt to keeping breaks = tt
all_settled {S} g new {mid} {was} (Err e) (Ok y) works spelt to keeping breaks = absurd (let e = to.passes in cc)
all_settled {S} g new {mid} {was} (Err e) (Err f) works spelt to keeping breaks = tt
