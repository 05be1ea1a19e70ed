-- Proofs about reads in a transaction, single and in sequence.
use Rattle.std.proofs.Common.{◌≡◌, ◌⊎◌, inl, inr, List, ℕ, Ok, Err, Result, IfOk, OnOk, sym, ap, subst, ◌∙◌, arith}
use Rattle.std.specs.Prelude.{IfErr, IsTrue, Vec}
use Rattle.std.specs.Global.{Global}
use Rattle.sqlite.specs.Order.{Row}
use Rattle.sqlite.specs.declared.error.Error.{Error}
use Rattle.sqlite.specs.Effect.{Database}
use Rattle.sqlite.specs.Listing.{understood}
use Rattle.sqlite.specs.Clock.{timed}
use Rattle.sqlite.specs.State.{State, HasCleanDisk, KeepsCommit, Shown, ShowsRows, FailsToQuery, FailsToShow, IsTooLate, IsUnchanged, IsRolledBack, IsNotRun, Survives}
use Rattle.sqlite.proofs.Callers.{IsPlain}
use Rattle.sqlite.proofs.StateLemmas.{survives_then}
use Rattle.space_sql_schema.specs.Tables.{dss_schema}
use Rattle.entity_core.specs.Airspace.{Airspace}
use Rattle.space_sql_schema.proofs.Steps.{keeps_then, unchanged_keeps, kept_keeps}
use Rattle.space_sql_schema.specs.Spelling.{Spells}
use Rattle.space_sql_select.specs.Reading.{Reads, ReadsAlive, ReadsAlone, ReadsTables}
use Rattle.space_sql_select.specs.Selecting.{Answers}

-- A query changes nothing.
pub shown_same : (sql : List ℕ) (params : Row) (old new : State) (rows : List Row) → IsPlain (understood old.now.schema sql) → Shown sql params old new rows → IsUnchanged old new
unfolding Shown
shown_same sql params old new rows plain h =
    let none = (subst IsPlain h.1.is plain).0 in
    let it = subst (ShowsRows old new sql h.0 (timed params h.0.formats h.1.now) rows) none h.2 in
    it.3

not_run_kept : (sql : List ℕ) (params : Row) (old new : State) (e : Error) → IsNotRun old new sql params e → IsUnchanged old new ⊎ IsRolledBack old new
unfolding IsNotRun
not_run_kept sql params old new e (inl h) = inl h.1
not_run_kept sql params old new e (inr h) = inr h.3

-- A query that fails changes nothing, or has rolled the transaction back.
pub query_kept : (sql : List ℕ) (params : Row) (old new : State) (e : Error) → IsPlain (understood old.now.schema sql) → FailsToQuery sql params old new e → IsUnchanged old new ⊎ IsRolledBack old new
unfolding FailsToQuery
query_kept sql params old new e plain (inl h) = not_run_kept sql params old new e h
query_kept sql params old new e plain (inr h) =
    let none = (subst IsPlain h.1.is plain).0 in
    let it = subst (FailsToShow old new sql h.0 (timed params h.0.formats h.1.now) e) none h.2 in
    inl it.3

module _ (sql : List ℕ) (plain : IsPlain (understood dss_schema sql)) (params : Row) (old new : State) where
  ours : old.now.schema ≡ dss_schema → IsPlain (understood old.now.schema sql)
  ours has = subst (λ s. IsPlain (understood s sql)) (sym has) plain

  failed : (e : Error) → FailsToQuery sql params old new e ⊎ IsTooLate sql params old new e → old.now.schema ≡ dss_schema → KeepsCommit old new
  failed e (inl h) has = kept_keeps old new (query_kept sql params old new e (ours has) h)
  failed e (inr h) has = unchanged_keeps old new h.5

  -- A single statement is a read.
  pub reads_on : (P : Database → List Row → Type 0) (r : Result (Vec Row Global) Error) → (HasCleanDisk new → IfOk r (λ rows. Shown sql params old new rows.items))
      → (HasCleanDisk new → IfErr r (λ e. FailsToQuery sql params old new e ⊎ IsTooLate sql params old new e)) → Survives old new (λ _. ⊥)
      → ((rows : List Row) → old.now.schema ≡ dss_schema → Shown sql params old new rows → P old.now rows) → Reads (λ db rows. P db rows.items) old new r
  reads_on P (Ok rows) ok err survives shown = record {
    answer = λ clean has. shown rows.items has (ok clean);
    same = λ clean has. (shown_same sql params old new rows.items (ours has) (ok clean)).0.now_is;
    kept = λ clean has. unchanged_keeps old new (shown_same sql params old new rows.items (ours has) (ok clean));
    survives = survives;
  }
  reads_on P (Err e) ok err survives shown = record { answer = λ clean. tt; same = λ clean. tt; kept = λ clean. failed e (err clean); survives = survives }

-- Two reads in sequence are a read.
pub reads_then : {X Y : Type 0} (P : Database → X → Type 0) (Q : Database → Y → Type 0) (a b d : State) (x : X) (r : Result Y Error) → Reads P a b (Ok x) → Reads Q b d r → Reads (λ db y. P db x × Q db y) a d r
reads_then P Q a b d x (Ok y) p q =
    let mid = λ (clean : HasCleanDisk d). let c : HasCleanDisk b = omega (arith, q.survives.clean) in c in
    let there = λ (clean : HasCleanDisk d) (has : a.now.schema ≡ dss_schema). let h : b.now.schema ≡ dss_schema = ap (λ (db : Database). db.schema) (p.same (mid clean) has) ∙ has in h in
    record {
      answer = λ clean has. (p.answer (mid clean) has, subst (λ (db : Database). Q db y) (p.same (mid clean) has) (q.answer clean (there clean has)));
      same = λ clean has. q.same clean (there clean has) ∙ p.same (mid clean) has;
      kept = λ clean has. keeps_then a b d (p.kept (mid clean) has) (q.kept clean (there clean has));
      survives = survives_then a b d _ _ (λ _. ⊥) (λ _ db none. none) (λ _ db none. none) p.survives q.survives;
    }
reads_then P Q a b d x (Err e) p q =
    let mid = λ (clean : HasCleanDisk d). let c : HasCleanDisk b = omega (arith, q.survives.clean) in c in
    record {
      answer = λ clean. tt;
      same = λ clean. tt;
      kept = λ clean has. keeps_then a b d (p.kept (mid clean) has) (q.kept clean (ap (λ (db : Database). db.schema) (p.same (mid clean) has) ∙ has));
      survives = survives_then a b d _ _ (λ _. ⊥) (λ _ db none. none) (λ _ db none. none) p.survives q.survives;
    }

-- ---- in a separate transaction

module _ {X : Type 0} (P : Database → X → Type 0) (old mid new : State) (x : X) where
  -- A read stays one if the store is alive after it.
  pub reads_alive : (IsTrue old.is_open → old.now ≡ old.committed) → ReadsAlone P old mid (Ok x) → (HasCleanDisk new → IsUnchanged mid new) → Survives mid new (λ _. ⊥) → ReadsAlive P old new (Ok x)
  reads_alive settled alone same survives =
      let cleaned = λ (clean : HasCleanDisk new). let c : HasCleanDisk mid = omega (arith, survives.clean) in c in
      record {
        answer = λ clean. alone.answer (cleaned clean);
        rests = λ clean has.
            let kept = (same clean).0 in
            let back = alone.back (cleaned clean) kept.was_open has in
            ((kept.is_open, kept.committed_is ∙ (back.committed_is ∙ (sym back.now_is ∙ sym kept.now_is))), kept.now_is ∙ (back.now_is ∙ sym (settled back.was_open)));
        is_open = λ clean. (same clean).0.is_open;
        survives = survives_then old mid new _ _ (λ _. ⊥) (λ _ db none. none) (λ _ db none. none) alone.survives survives;
      }

-- A read, followed by a check of what was read, is a read.
pub alive_judged : {X Y : Type 0} (P : Database → X → Type 0) (Q : Database → Y → Type 0) (old new : State) (x : X) (r : Result Y Error) → ((db : Database) → db.schema ≡ dss_schema → P db x → IfOk r (Q db)) → ReadsAlive P old new (Ok x) → ReadsAlive Q old new r
alive_judged P Q old new x (Ok y) f p = record { answer = λ clean has. f old.now has (p.answer clean has); rests = p.rests; is_open = p.is_open; survives = p.survives }
alive_judged P Q old new x (Err e) f p = record { answer = λ clean. tt; rests = λ clean. tt; is_open = λ clean. tt; survives = p.survives }

-- A read of the tables is a read of the airspace that they represent.
pub reads_spelt : {X : Type 0} (P : Database → X → Type 0) (Q : Airspace → X → Type 0) (old new : State) (r : Result X Error) → ((db : Database) (x : X) → P db x → (a : Airspace) → Spells db a → Q a x) → ReadsAlive P old new r → ReadsTables old new r Q
reads_spelt P Q old new (Ok x) f p = record { answer = λ clean a s. f old.now x (p.answer clean s.schema) a s; rests = p.rests; is_open = p.is_open; survives = p.survives }
reads_spelt P Q old new (Err e) f p = record { answer = λ clean. tt; rests = λ clean. tt; is_open = λ clean. tt; survives = p.survives }

-- An error of any kind says nothing more.
pub reads_failed : {X Y : Type 0} (P : Database → X → Type 0) (Q : Database → Y → Type 0) (a d : State) (e f : Error) (r : Result Y Error) → r ≡ Err f → Reads P a d (Err e) → Reads Q a d r
reads_failed P Q a d e f r is p = subst (Reads Q a d) (sym is) (record { answer = λ clean. tt; same = λ clean. tt; kept = p.kept; survives = p.survives })

pub reads_as : {X Y : Type 0} (P : Database → X → Type 0) (Q : Database → Y → Type 0) (a d : State) (x : X) (y : Y) → ((db : Database) → P db x → Q db y) → Reads P a d (Ok x) → Reads Q a d (Ok y)
reads_as P Q a d x y f p = record { answer = λ clean has. f a.now (p.answer clean has); same = p.same; kept = p.kept; survives = p.survives }

pub on_ok : {X : Type 0} (r : Result X Error) (A : Type 0) → A → OnOk r A
on_ok (Ok x) A a = a
on_ok (Err e) A a = tt

-- Equal texts with equal parameters have the same results.
pub reads_asked : (old new : State) (r : Result (Vec Row Global) Error) (sql text : List ℕ) (p q : Row) → sql ≡ text → p ≡ q → Reads (λ db rows. Answers sql p db rows.items) old new r → Reads (λ db rows. Answers text q db rows.items) old new r
reads_asked old new r sql text p q e f h = subst (λ (l : List ℕ). Reads (λ db rows. Answers l q db rows.items) old new r) e (subst (λ (l : Row). Reads (λ db rows. Answers sql l db rows.items) old new r) f h)

-- A read, followed by a check of what was read, is a read.
pub reads_judged : {X Y : Type 0} (P : Database → X → Type 0) (Q : Database → Y → Type 0) (a d : State) (x : X) (r : Result Y Error) → ((db : Database) → P db x → IfOk r (Q db)) → Reads P a d (Ok x) → Reads Q a d r
reads_judged P Q a d x (Ok y) f p = record { answer = λ clean has. f a.now (p.answer clean has); same = p.same; kept = p.kept; survives = p.survives }
reads_judged P Q a d x (Err e) f p = record { answer = λ clean. tt; same = λ clean. tt; kept = p.kept; survives = p.survives }
