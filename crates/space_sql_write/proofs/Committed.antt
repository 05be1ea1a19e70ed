-- Proofs that a transaction is committed or rolled back, whatever was changed in it.
use Rattle.std.proofs.Common.{arith, ◌≡◌, inl, inr, true, false, Ok, Err, Result, IfErr, OnOk, OnErr, [], refl, sym, subst, ◌∙◌}
use Rattle.std.specs.Prelude.{IsTrue, IsErr}
use Rattle.sqlite_trees.specs.declared.store.Store.{Ghosts}
use Rattle.sqlite.specs.Held.{Held, state}
use Rattle.sqlite.specs.Effect.{Database, IsDatabase}
use Rattle.sqlite.specs.State.{State, HasCleanDisk, Survives, Shows, IsRolledBack, KeepsCommit, KeepsCounts}
use Rattle.sqlite.specs.Steps.{FailsToCommit}
use Rattle.sqlite.specs.declared.error.Error.{Error}
use Rattle.sqlite.proofs.StateLemmas.{survives_then}
use Rattle.sqlite.proofs.Callers.{survives_begin}
use Rattle.entity_core.specs.Airspace.{Airspace}
use Rattle.space_sql_schema.specs.Spelling.{Spells}
use Rattle.space_sql_schema.specs.Making.{IsUndone}
use Rattle.space_sql_schema.proofs.Steps.{ok_map}
use Rattle.space_sql_write.specs.Committing.{Commits, HoldsAcrossChange, MayBeChanged}
use Rattle.space_sql_write.specs.Statements.{Runs}

-- A commit that fails rolls the transaction back.
fails_back : (old last new : State) (r : Result (Unit {0}) Error) → IfErr r (FailsToCommit last new) → last.in_transaction ≡ true → KeepsCommit old last → IsTrue new.is_open → OnErr r (IsUndone old new)
fails_back old last new (Ok x) h on kept alive = tt
fails_back old last new (Err e) (inl f) on kept alive = let back = f.3 in let same = kept.committed (back.was_open alive) in ((back.undone alive).0 ∙ same, (back.undone alive).1 ∙ same)
fails_back old last new (Err e) (inr h) on kept alive = absurd (let both = sym on ∙ h.1 in cc)

-- Lemmas about a transaction in which each represented airspace with P became the changed one.
module _ {S : Type 0} (g : Ghosts S) (old : Held S) (P : Airspace → Type 0) (change : Airspace → Airspace) (Keeps : Airspace → Database → Database → Type 0) (last new : State) where
  abbrev begun : State
  begun = state g (record old { in_transaction = true })

  abbrev before : State
  before = state g old

  abbrev Changes : Unit {0} → Database → Database → Type 0
  Changes _ x y = (a : Airspace) → Spells x a → P a → Spells y (change a) × IsDatabase y × Keeps a x y

  -- After a commit was tried, the change is committed or not at all.
  pub committed : (r : Result (Unit {0}) Error) → Runs Changes begun last (Ok tt)
      → (HasCleanDisk new → OnOk r (IsTrue last.in_transaction × Shows last new last.now last.now false × KeepsCounts last new × (new.marks ≡ [])))
      → (HasCleanDisk new → IfErr r (FailsToCommit last new)) → Survives last new (λ db. db ≡ last.now.trees) → Commits P change before new r
  committed r ran ok err survives = record {
    done = λ clean.
        let it = (ran.done (omega (arith, survives.clean)) refl).0 in
        ok_map r _ _ (ok clean) (λ shown. ((λ a p fits. subst (λ d. Spells d (change a)) (sym shown.1.now_is) (it a p fits).0), (shown.1.is_open, shown.1.committed_is ∙ sym shown.1.now_is)));
    err = λ clean alive.
        let mid : HasCleanDisk last = omega (arith, survives.clean) in
        let kept = ran.kept mid refl in
        fails_back before last new r (err clean) (ran.done mid refl).1.inside (record { was_open = kept.was_open; committed = kept.committed }) alive;
    crash = survives_then before last new _ _ (MayBeChanged P change before) (λ _ db none. absurd none)
        (λ clean db is a p fits. let it = (ran.done (omega (arith, survives.clean)) refl).0 a p fits in (last.now, is, it.1, it.0))
        (survives_begin g old last _ ran.survives) survives;
  }

  -- The same, for the relation `Keeps` across the change.
  pub kept_committed : (r : Result (Unit {0}) Error) → Runs Changes begun last (Ok tt)
      → (HasCleanDisk new → OnOk r (IsTrue last.in_transaction × Shows last new last.now last.now false × KeepsCounts last new × (new.marks ≡ [])))
      → Survives last new (λ db. db ≡ last.now.trees) → HoldsAcrossChange P Keeps before new r
  kept_committed r ran ok survives = λ clean.
      let it = (ran.done (omega (arith, survives.clean)) refl).0 in
      ok_map r _ _ (ok clean) (λ shown a p fits. subst (Keeps a before.now) (sym shown.1.now_is) (it a p fits).2)

  -- After a rollback, nothing is changed.
  pub undone : (r : Result (Unit {0}) Error) (e : Error) → IsErr r → Runs Changes begun last (Err e) → (HasCleanDisk new → IsRolledBack last new) → Survives last new (λ _. ⊥) → Commits P change before new r
  undone (Ok x) e failed ran back survives = absurd (let none = failed in cc)
  undone (Err f) e failed ran back survives = record {
    done = λ clean. tt;
    err = λ clean alive.
        let kept = (ran.kept (omega (arith, survives.clean)) refl).committed ((back clean).was_open alive) in
        let it = (back clean).undone alive in
        (it.0 ∙ kept, it.1 ∙ kept);
    crash = survives_then before last new _ _ (MayBeChanged P change before) (λ _ db none. absurd none) (λ _ db none. absurd none) (survives_begin g old last _ ran.survives) survives;
  }

-- After an error, the relation across the change holds trivially.
pub none_kept : (P : Airspace → Type 0) (Keeps : Airspace → Database → Database → Type 0) (old new : State) (r : Result (Unit {0}) Error) → IsErr r → HoldsAcrossChange P Keeps old new r
none_kept P Keeps old new (Ok x) failed = absurd (let none = failed in cc)
none_kept P Keeps old new (Err e) failed = λ clean. tt
