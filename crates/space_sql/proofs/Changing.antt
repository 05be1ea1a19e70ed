-- Proofs about the result of a change of a space.
use Rattle.std.proofs.Common.{◌≡◌, ◌⊎◌, inl, inr, List, [], ◌∷◌, length, Ok, Err, Result, refl, sym, ap, subst, ◌∙◌, arith}
use Rattle.std.proofs.lemmas.List.{nil_from_length}
use Rattle.std.specs.Prelude.{false, IsTrue, IsErrOf, OnOk, ◌↔◌}
use Rattle.sqlite_trees.specs.Tree.{Trees}
use Rattle.sqlite_trees.specs.declared.store.Store.{Ghosts}
use Rattle.sqlite.specs.Effect.{Database, IsDatabase}
use Rattle.sqlite.specs.Held.{Held, state}
use Rattle.sqlite.specs.State.{State, HasCleanDisk, IsUnchanged, Survives}
use Rattle.sqlite.specs.declared.error.Error.{Error}
use Rattle.entity_core.specs.Airspace.{Airspace}
use Rattle.space_core.specs.declared.space.SpaceFault.{SpaceFault}
use Rattle.space_core.specs.declared.space.SpaceFault.TheVariants.{Unchanged}
use Rattle.space_core.specs.Space.{Changes, IsContent}
use Rattle.space_sql_schema.specs.Making.{IsUndone}
use Rattle.space_sql_schema.specs.Spelling.{Spells}
use Rattle.space_sql_schema.proofs.OneAirspace.{one_airspace}
use Rattle.space_sql_write.specs.Committing.{Commits, MayBeChanged}
use Rattle.space_sql.specs.Holding.{IsKeeping, AreTablesOf, SqlSpaceModel, Rests, holds_in, is_whole_in, holds_of, is_sound_of, is_whole_of, with_tables}
use Rattle.space_sql.specs.Settling.{Settles}
use Rattle.space_sql.proofs.Outcomes.{held_is_spelt, spelt_alone, spelt_is_held, whole_is_spelt}

-- The trees that a commit may leave store the airspace that they represent.
keeps_of : (trees : Trees) (a : Airspace) → ((db : Database) × (trees ≡ db.trees) × IsDatabase db × Spells db a) → AreTablesOf trees a
keeps_of trees a it =
    let path : it.0 ≡ with_tables trees = λ i. record { schema = it.3.schema i; trees = (sym it.1) i } in
    subst (λ d. IsDatabase d × Spells d a) path (it.2, it.3)

module _ (P : Airspace → Type 0) (change : Airspace → Airspace) (old mid new : State) (rests : Rests old) (after : Rests new) (live : HasCleanDisk old → IsTrue old.is_open) (fits : HasCleanDisk old → (a : Airspace) → holds_in old a → P a) (went : Survives old mid (MayBeChanged P change old)) (tried : Survives mid new (λ _. ⊥)) (clean : HasCleanDisk new) where
  mid_clean : HasCleanDisk mid
  mid_clean = omega (arith, tried.clean)

  old_clean : HasCleanDisk old
  old_clean = omega (arith, went.clean, mid_clean)

  -- The visible airspace is changed if the trees may be committed.
  committed : (db : Trees) → MayBeChanged P change old db → (a : Airspace) → holds_in old a → AreTablesOf db (change a)
  committed db made a h = keeps_of db (change a) (made a (held_is_spelt old rests (live old_clean) a h) (fits old_clean a h))

  outcome : (db : Trees) → new.may_leave db → old.may_leave db ⊎ MayBeChanged P change old db
  outcome db may = elim (tried.crash clean db may) [ inl earlier ↦ went.crash mid_clean db earlier | inr none ↦ absurd none ]

  pub change_whole : is_whole_in old → is_whole_in new
  change_whole whole db may = elim (outcome db may) [
    | inl earlier ↦ whole db earlier
    | inr made ↦ let it = whole_is_spelt old rests (live old_clean) whole in (change it.0, committed db made it.0 (spelt_is_held old rests (live old_clean) it.0 it.1))
  ]

  pub change_only : (b : Airspace) → holds_in new b → holds_in old b ⊎ ((a : Airspace) → holds_in old a → b ≡ change a)
  change_only b h = elim (outcome h.0 h.1) [
    | inl earlier ↦ inl (h.0, earlier, h.2)
    | inr made ↦ inr (λ a held. one_airspace (with_tables h.0) (with_tables h.0) b (change a) refl h.2.1 (committed h.0 made a held).1)
  ]

  pub change_refused : IsUndone old mid → IsUnchanged mid new → (a : Airspace) → holds_in old a ↔ holds_in new a
  change_refused undone same a =
      let last : old.committed.trees ≡ new.committed.trees = ap (λ (d : Database). d.trees) (sym undone.1 ∙ sym same.0.committed_is) in (
        (λ h. (new.committed.trees, after.stays same.0.is_open, subst (λ t. AreTablesOf t a) (rests.no_other h.0 (live old_clean) h.1 ∙ last) h.2)),
        (λ h. (old.committed.trees, rests.stays (live old_clean), subst (λ t. AreTablesOf t a) (after.no_other h.0 same.0.is_open h.1 ∙ sym last) h.2)),
      )

-- Lemmas about an unbroken space and an attempted change of its tables.
module _ {S : Type 0} (g : Ghosts S) (P : Airspace → Type 0) (change : Airspace → Airspace) (old new : SqlSpaceModel S) (mid : Held S) (works : old.broken ≡ false) (kept : IsKeeping (state g old.conn) old.broken) (keeping : IsKeeping (state g new.conn) new.broken) (fits : is_sound_of g old → (a : Airspace) → holds_of g old a → P a) where
  live : HasCleanDisk (state g old.conn) → IsTrue (state g old.conn).is_open
  live clean = kept.live clean works

  fits_clean : HasCleanDisk (state g old.conn) → (a : Airspace) → holds_of g old a → P a
  fits_clean clean = fits (record { clean = clean; live = kept.live clean })

  was_clean : (told : Result (Unit {0}) Error) (r : Result (Unit {0}) SpaceFault) → Commits P change (state g old.conn) (state g mid) told → Settles g mid new.conn told r → HasCleanDisk (state g new.conn) → HasCleanDisk (state g old.conn)
  was_clean told r it to clean = omega (arith, it.crash.clean, to.survives.clean)

  done : (told : Result (Unit {0}) Error) (r : Result (Unit {0}) SpaceFault) → Commits P change (state g old.conn) (state g mid) told → Settles g mid new.conn told r → HasCleanDisk (state g new.conn)
      → OnOk r ((a : Airspace) → holds_of g old a → IsContent (holds_of g) new (change a))
  done (Ok x) (Ok y) it to clean = λ a h.
      let old_clean = was_clean (Ok x) (Ok y) it to clean in
      let whole = subst (λ (k : Held S). Commits P change (state g old.conn) (state g k) (Ok x)) (sym to.passes.1) it in
      let made = whole.done clean in
      let spelt = made.0 a (held_is_spelt (state g old.conn) kept.rests (live old_clean) a h) (fits_clean old_clean a h) in
      record { held = spelt_is_held (state g new.conn) keeping.rests made.1.0 (change a) spelt; only = λ b. spelt_alone (state g new.conn) keeping.rests made.1.0 (change a) b spelt }
  done (Ok x) (Err f) it to clean = tt
  done (Err e) (Ok y) it to clean = absurd (let p = to.passes in cc)
  done (Err e) (Err f) it to clean = tt

  refused : (told : Result (Unit {0}) Error) (r : Result (Unit {0}) SpaceFault) → Commits P change (state g old.conn) (state g mid) told → Settles g mid new.conn told r → HasCleanDisk (state g new.conn)
      → IsErrOf r Unchanged → (a : Airspace) → holds_of g old a ↔ holds_of g new a
  refused (Ok x) (Ok y) it to clean is = absurd cc
  refused (Ok x) (Err f) it to clean is = absurd (let p = to.passes.0 in cc)
  refused (Err e) (Ok y) it to clean is = absurd cc
  refused (Err e) (Err f) it to clean is =
      let unchanged = to.same clean is in
      change_refused P change (state g old.conn) (state g mid) (state g new.conn) kept.rests keeping.rests live fits_clean it.crash to.survives clean (it.err (omega (arith, to.survives.clean, clean)) unchanged.0.was_open) unchanged

  changes : (told : Result (Unit {0}) Error) (r : Result (Unit {0}) SpaceFault) → Commits P change (state g old.conn) (state g mid) told → Settles g mid new.conn told r
      → Changes (holds_of g) (is_sound_of g) (is_whole_of g) old.broken old new r change
  changes told r it to = record {
    sound = λ s. let clean = was_clean told r it to s.clean in record { clean = clean; live = kept.live clean };
    whole = λ s. change_whole P change (state g old.conn) (state g mid) (state g new.conn) kept.rests keeping.rests live fits_clean it.crash to.survives s.clean;
    done = λ s. done told r it to s.clean;
    refused = λ s. refused told r it to s.clean;
    broken = λ s is. change_only P change (state g old.conn) (state g mid) (state g new.conn) kept.rests keeping.rests live fits_clean it.crash to.survives s.clean;
    frozen = λ s set. absurd (let off = works in cc);
  }

-- The result of the space matches the result of the change of its tables.
pub changes_settled : {S : Type 0} (g : Ghosts S) (P : Airspace → Type 0) {change : Airspace → Airspace} {old seen new : SqlSpaceModel S} {mid : Held S} {told : Result (Unit {0}) Error} {r : Result (Unit {0}) SpaceFault} → old ≡ seen → IsKeeping (state g old.conn) old.broken → old.broken ≡ false
    → (is_sound_of g seen → (a : Airspace) → holds_of g seen a → P a) → Commits P change (state g old.conn) (state g mid) told → Settles g mid new.conn told r → IsKeeping (state g new.conn) new.broken
    → Changes (holds_of g) (is_sound_of g) (is_whole_of g) seen.broken seen new r change
changes_settled {S} g P {change} {old} {seen} {new} {mid} {told} {r} is kept works fits it to keeping =
    let due = subst (λ (k : SqlSpaceModel S). is_sound_of g k → (a : Airspace) → holds_of g k a → P a) (sym is) fits in
    subst (λ (k : SqlSpaceModel S). Changes (holds_of g) (is_sound_of g) (is_whole_of g) k.broken k new r change) is (changes g P change old new mid works kept keeping due told r it to)

-- ---- changes made together

-- The same for a nonempty list of changes.
pub all_settled : {S X : Type 0} (g : Ghosts S) (P : List X → Airspace → Type 0) (change : List X → Airspace → Airspace) (all : List X) (first : X) (rest : List X) {old seen new : SqlSpaceModel S} {mid : Held S} {told : Result (Unit {0}) Error} {r : Result (Unit {0}) SpaceFault} → all ≡ first ∷ rest → old ≡ seen → IsKeeping (state g old.conn) old.broken → old.broken ≡ false
    → (is_sound_of g seen → (a : Airspace) → holds_of g seen a → P all a) → Commits (P (first ∷ rest)) (change (first ∷ rest)) (state g old.conn) (state g mid) told → Settles g mid new.conn told r → IsKeeping (state g new.conn) new.broken
    → Changes (holds_of g) (is_sound_of g) (is_whole_of g) seen.broken seen new r (change all)
all_settled {S} g P change all first rest {old} {seen} {new} {mid} {told} {r} whole is kept works fits it to keeping =
    let made = subst (λ xs. Commits (P xs) (change xs) (state g old.conn) (state g mid) told) (sym whole) it in
    changes_settled g (P all) is kept works fits made to keeping

-- No change.
nothing : {S : Type 0} (g : Ghosts S) (k : SqlSpaceModel S) → IsKeeping (state g k.conn) k.broken → k.broken ≡ false → Changes {T = Unit {0}} (holds_of g) (is_sound_of g) (is_whole_of g) k.broken k k (Ok tt) (λ a. a)
nothing g k kept works = record {
  sound = λ s. s;
  whole = λ s whole. whole;
  done = λ s a h. let is_open = s.live works in record { held = h; only = λ b. spelt_alone (state g k.conn) kept.rests is_open a b (held_is_spelt (state g k.conn) kept.rests is_open a h) };
  refused = λ s is. absurd (let e = is in cc);
  broken = λ s is. absurd (let e = is in cc);
  frozen = λ s set b h. h;
}

-- The same for an empty list of changes.
pub none_settled : {S X : Type 0} (g : Ghosts S) (change : List X → Airspace → Airspace) (all : List X) {old seen : SqlSpaceModel S} → change [] ≡ (λ a. a) → length all ≡ 0 → old ≡ seen → IsKeeping (state g old.conn) old.broken → old.broken ≡ false
    → Changes {T = Unit {0}} (holds_of g) (is_sound_of g) (is_whole_of g) seen.broken seen seen (Ok tt) (change all)
none_settled {S} g change all {old} {seen} stays none is kept works =
    let same = subst (λ f. Changes {T = Unit {0}} (holds_of g) (is_sound_of g) (is_whole_of g) old.broken old old (Ok tt) f) (sym (ap change (nil_from_length all none) ∙ stays)) (nothing g old kept works) in
    subst (λ (k : SqlSpaceModel S). Changes {T = Unit {0}} (holds_of g) (is_sound_of g) (is_whole_of g) k.broken k k (Ok tt) (change all)) is same
