-- Proofs about the result of reading a space.
use Rattle.std.proofs.Common.{◌≡◌, Ok, Err, Result, IfOk, subst, ◌∙◌}
use Rattle.std.specs.Prelude.{false, IsTrue, MatchResult}
use Rattle.sqlite_trees.specs.declared.store.Store.{Ghosts}
use Rattle.sqlite.specs.Held.{Held, state}
use Rattle.sqlite.specs.State.{State, HasCleanDisk, Survives}
use Rattle.sqlite.specs.declared.error.Error.{Error}
use Rattle.sqlite.proofs.StateLemmas.{survives_then}
use Rattle.entity_core.specs.Airspace.{Airspace}
use Rattle.space_core.specs.declared.space.SpaceFault.{SpaceFault}
use Rattle.space_core.specs.declared.space.SpaceFault.TheVariants.{Unchanged, Broken}
use Rattle.space_core.specs.Space.{Reads, UnlessBroken, is_broken_after}
use Rattle.space_sql_load.specs.declared.table_check.LoadedAirspace.{LoadedAirspace}
use Rattle.space_sql.specs.Holding.{IsKeeping, SqlSpaceModel, holds_of, is_sound_of, is_whole_of}
use Rattle.space_sql.specs.Settling.{Settles}
use Rattle.space_sql_load.specs.Checking.{loaded_airspace}
use Rattle.space_sql_select.specs.Reading.{ReadsTables}
use Rattle.space_sql.proofs.Outcomes.{clean_before, held_is_spelt, no_other, stays_held, stays_whole}

-- A result found in the loaded airspace is right for the space.
pub found_in : {U : Type 0} (old new : State) (l : LoadedAirspace) (r : Result U Error) (Q : Airspace → U → Type 0) → ReadsTables old new (Ok l) (λ a found. loaded_airspace found ≡ a)
    → IfOk r (Q (loaded_airspace l)) → ReadsTables old new r Q
found_in old new l (Ok x) Q it ok = record { answer = λ clean a p. subst (λ b. Q b x) (it.answer clean a p) ok; rests = it.rests; is_open = it.is_open; survives = it.survives }
found_in old new l (Err e) Q it ok = record { answer = λ clean. tt; rests = λ clean. tt; is_open = λ clean. tt; survives = it.survives }

-- Lemmas about an unbroken space and a call that read its tables.
module _ {S T : Type 0} (g : Ghosts S) (P : Airspace → T → Type 0) (old new : SqlSpaceModel S) (mid : Held S) (works : old.broken ≡ false) (kept : IsKeeping (state g old.conn) old.broken) (keeping : IsKeeping (state g new.conn) new.broken) where
  module _ (went : Survives (state g old.conn) (state g new.conn) (λ _. ⊥)) (clean : HasCleanDisk (state g new.conn)) where
    was_open : IsTrue (state g old.conn).is_open
    was_open = kept.live (clean_before (state g old.conn) (state g new.conn) went clean) works

    still_held : new.broken ≡ old.broken → (a : Airspace) → holds_of g old a → holds_of g new a
    still_held same = stays_held (state g old.conn) (state g new.conn) went clean kept.rests keeping.rests was_open (keeping.live clean (same ∙ works))

    unless_broken : (r : Result T SpaceFault) → new.broken ≡ is_broken_after old.broken r
        → MatchResult r (λ _. (a : Airspace) → holds_of g old a → holds_of g new a) (λ e. UnlessBroken e ((a : Airspace) → holds_of g old a → holds_of g new a))
    unless_broken (Ok x) breaks = still_held breaks
    unless_broken (Err Unchanged) breaks = still_held breaks
    unless_broken (Err Broken) breaks = tt

    answered : (told : Result T Error) (r : Result T SpaceFault) → ReadsTables (state g old.conn) (state g mid) told P → Settles g mid new.conn told r → IfOk r (λ found. (a : Airspace) → holds_of g old a → P a found)
    answered (Ok x) (Ok y) it to = λ a h.
        let is : x ≡ y = let e = to.passes.0 in cc in
        subst (P a) is (it.answer (clean_before (state g mid) (state g new.conn) to.survives clean) a (held_is_spelt (state g old.conn) kept.rests was_open a h))
    answered (Ok x) (Err e) it to = tt
    answered (Err e) (Ok y) it to = absurd (let e = to.passes in cc)
    answered (Err e) (Err f) it to = tt

  reads : (told : Result T Error) (r : Result T SpaceFault) → ReadsTables (state g old.conn) (state g mid) told P → Settles g mid new.conn told r → new.broken ≡ is_broken_after old.broken r
      → Reads (holds_of g) (is_sound_of g) (is_whole_of g) old new r P
  reads told r it to breaks =
      let went = survives_then (state g old.conn) (state g mid) (state g new.conn) _ _ (λ _. ⊥) (λ _ db none. none) (λ _ db none. none) it.survives to.survives in
      record {
        sound = λ s. let clean = clean_before (state g old.conn) (state g new.conn) went s.clean in record { clean = clean; live = kept.live clean };
        whole = λ s whole. stays_whole (state g old.conn) (state g new.conn) went s.clean whole;
        stays = λ s. unless_broken went s.clean r breaks;
        no_other = λ s. no_other (state g old.conn) (state g new.conn) went s.clean;
        answer = λ s. answered went s.clean told r it to;
      }

-- The result of the space matches the result of its connection.
pub reads_settled : {S T : Type 0} (g : Ghosts S) {P : Airspace → T → Type 0} {old seen new : SqlSpaceModel S} {mid : Held S} {told : Result T Error} {r : Result T SpaceFault} → old ≡ seen → IsKeeping (state g old.conn) old.broken → old.broken ≡ false
    → Settles g mid new.conn told r → ReadsTables (state g old.conn) (state g mid) told P → IsKeeping (state g new.conn) new.broken → new.broken ≡ is_broken_after old.broken r
    → Reads (holds_of g) (is_sound_of g) (is_whole_of g) seen new r P
reads_settled {S} {T} g {P} {old} {seen} {new} {mid} {told} {r} is kept works to it keeping breaks = subst (λ (k : SqlSpaceModel S). Reads (holds_of g) (is_sound_of g) (is_whole_of g) k new r P) is (reads g P old new mid works kept keeping told r it to breaks)
