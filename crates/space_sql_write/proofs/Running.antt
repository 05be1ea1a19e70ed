-- Proofs about statements in a transaction, single and in sequence.
use Rattle.std.proofs.Common.{arith, ◌⊎◌, inl, inr, ℕ, List, true, cond, Option, Some, None, Ok, Err, Result, IfOk, OnOk, IfErr, refl, ap, subst, ◌∙◌}
use Rattle.std.specs.Prelude.{IsTrue}
use Rattle.sqlite_schema.specs.declared.command.Returning.{Returning}
use Rattle.sqlite.specs.Clock.{timed}
use Rattle.sqlite.specs.Order.{Row}
use Rattle.sqlite.specs.Effect.{Database}
use Rattle.sqlite.specs.declared.error.Error.{Error}
use Rattle.sqlite.specs.Listing.{understood}
use Rattle.sqlite.specs.State.{State, HasCleanDisk, Survives, Shows, KeepsCommit, IsUnchanged, IsRolledBack, Executes, ExecutesInside, Shown, ShowsRows, FailsToQuery, FailsToShow, IsTooLate, IsNotRun}
use Rattle.sqlite.proofs.Callers.{IsPlain}
use Rattle.sqlite.proofs.StateLemmas.{survives_then}
use Rattle.space_sql_schema.proofs.Steps.{keeps_then, kept_keeps, unchanged_keeps}
use Rattle.space_sql_write.specs.Statements.{GoesOn, Runs}

-- ---- a statement that writes

module _ (old new : State) (sql : List ℕ) (params : Row) where
  inside_done : (r : Result ℕ Error) (R : Database → Database → Type 0) → ExecutesInside 0 sql params old new r → (Executes sql params old new r → OnOk r (R old.now new.now))
      → IfOk r (λ _. R old.now new.now × GoesOn old new)
  inside_done (Ok n) R h each = (each h.0, record { inside = h.1.mode; committed = h.1.committed_is })
  inside_done (Err e) R h each = tt

  inside_keeps : (r : Result ℕ Error) → ExecutesInside 0 sql params old new r → KeepsCommit old new
  inside_keeps (Ok n) h = record { was_open = λ _. h.1.was_open; committed = λ _. h.1.committed_is }
  inside_keeps (Err e) (inl h) = kept_keeps old new h.1
  inside_keeps (Err e) (inr h) = unchanged_keeps old new h.2

  pub runs_on : (r : Result ℕ Error) (R : Database → Database → Type 0) → (HasCleanDisk new → IsTrue old.in_transaction → ExecutesInside 0 sql params old new r) → Survives old new (λ _. ⊥)
      → (Executes sql params old new r → OnOk r (R old.now new.now)) → Runs (λ _. R) old new r
  runs_on r R runs survives each = record {
    done = λ clean on. inside_done r R (runs clean on) each;
    kept = λ clean on. inside_keeps r (runs clean on);
    survives = survives;
  }

  -- ---- a query

  shown_shows : (rows : List Row) → Shown sql params old new rows → IsTrue old.in_transaction → Shows old new new.now old.committed true
  unfolding Shown
  shown_shows rows h on = go h.0.returning h.2
    where
      go : (r : Option Returning) → ShowsRows old new sql h.0 (timed params h.0.formats h.1.now) rows r → Shows old new new.now old.committed true
      go None s = let u = s.3.0 in record { was_open = u.was_open; is_open = u.is_open; now_is = refl; committed_is = u.committed_is; mode = u.mode ∙ on }
      go (Some what) s = let u = s.1.shown in record { was_open = u.was_open; is_open = u.is_open; now_is = refl; committed_is = u.committed_is ∙ ap (λ b. cond b old.committed new.now) on; mode = u.mode ∙ on }

  -- A query without RETURNING changes nothing.
  pub shown_same : (rows : List Row) → IsPlain (understood old.now.schema sql) → Shown sql params old new rows → IsUnchanged old new
  unfolding Shown
  shown_same rows plain h =
      let none = (subst IsPlain h.1.is plain).0 in
      let it = subst (ShowsRows old new sql h.0 (timed params h.0.formats h.1.now) rows) none h.2 in it.3

  not_run_kept : (e : Error) → IsNotRun old new sql params e → IsUnchanged old new ⊎ IsRolledBack old new
  unfolding IsNotRun
  not_run_kept e (inl h) = inl h.1
  not_run_kept e (inr f) = inr f.3

  failed_kept : (e : Error) → FailsToQuery sql params old new e → IsUnchanged old new ⊎ IsRolledBack old new
  unfolding FailsToQuery
  failed_kept e (inl h) = not_run_kept e h
  failed_kept e (inr h) = go h.0.returning h.2
    where
      go : (r : Option Returning) → FailsToShow old new sql h.0 (timed params h.0.formats h.1.now) e r → IsUnchanged old new ⊎ IsRolledBack old new
      go None s = inl s.3
      go (Some what) (inl s) = inl s.1
      go (Some what) (inr f) = inr f.3

  query_keeps : (e : Error) → FailsToQuery sql params old new e ⊎ IsTooLate sql params old new e → KeepsCommit old new
  query_keeps e (inl h) = kept_keeps old new (failed_kept e h)
  query_keeps e (inr h) = unchanged_keeps old new h.5

  -- A result that is computed from the rows of a query is a run.
  pub query_runs : {X : Type 0} (items : X → List Row) (R : X → Database → Database → Type 0) (r : Result X Error) → (HasCleanDisk new → IfOk r (λ x. Shown sql params old new (items x)))
      → (HasCleanDisk new → IfErr r (λ e. FailsToQuery sql params old new e ⊎ IsTooLate sql params old new e)) → Survives old new (λ _. ⊥) → ((x : X) → Shown sql params old new (items x) → R x old.now new.now) → Runs R old new r
  query_runs items R (Ok x) shown fails survives each = record {
    done = λ clean on. let s = shown_shows (items x) (shown clean) on in (each x (shown clean), record { inside = s.mode; committed = s.committed_is });
    kept = λ clean on. let s = shown_shows (items x) (shown clean) on in record { was_open = λ _. s.was_open; committed = λ _. s.committed_is };
    survives = survives;
  }
  query_runs items R (Err e) shown fails survives each = record { done = λ clean on. tt; kept = λ clean on. query_keeps e (fails clean); survives = survives }

-- ---- one after the other

module _ {X Y Z : Type 0} (R : X → Database → Database → Type 0) (Q : Y → Database → Database → Type 0) (T : Z → Database → Database → Type 0) (a b d : State) where
  pub runs_then : (x : X) (y : Y) (z : Z) → (R x a.now b.now → Q y b.now d.now → T z a.now d.now) → Runs R a b (Ok x) → Runs Q b d (Ok y) → Runs T a d (Ok z)
  runs_then x y z joins p q = record {
    done = λ clean on.
        let first = p.done (omega (arith, q.survives.clean)) on in
        let second = q.done clean first.1.inside in
        (joins first.0 second.0, record { inside = second.1.inside; committed = second.1.committed ∙ first.1.committed });
    kept = λ clean on. let mid : HasCleanDisk b = omega (arith, q.survives.clean) in keeps_then a b d (p.kept mid on) (q.kept clean (p.done mid on).1.inside);
    survives = survives_then a b d _ _ (λ _. ⊥) (λ _ db none. none) (λ _ db none. none) p.survives q.survives;
  }

  pub runs_failed : (x : X) (e f : Error) → Runs R a b (Ok x) → Runs Q b d (Err e) → Runs T a d (Err f)
  runs_failed x e f p q = record {
    done = λ clean on. tt;
    kept = λ clean on. let mid : HasCleanDisk b = omega (arith, q.survives.clean) in keeps_then a b d (p.kept mid on) (q.kept clean (p.done mid on).1.inside);
    survives = survives_then a b d _ _ (λ _. ⊥) (λ _ db none. none) (λ _ db none. none) p.survives q.survives;
  }

-- The result of the last run is the result of both.
pub runs_last : {X Y : Type 0} (R : X → Database → Database → Type 0) (Q T : Y → Database → Database → Type 0) (a b d : State) (x : X) (r : Result Y Error) → ((y : Y) → R x a.now b.now → Q y b.now d.now → T y a.now d.now)
    → Runs R a b (Ok x) → Runs Q b d r → Runs T a d r
runs_last R Q T a b d x (Ok y) joins p q = runs_then R Q T a b d x y y (joins y) p q
runs_last R Q T a b d x (Err e) joins p q = runs_failed R Q T a b d x e e p q

module _ {X Z : Type 0} (R : X → Database → Database → Type 0) (T : Z → Database → Database → Type 0) (a b : State) where
  -- A run that ends with an error is a run for any relation.
  pub runs_err : (e f : Error) → Runs R a b (Err e) → Runs T a b (Err f)
  runs_err e f p = record { done = λ clean on. tt; kept = p.kept; survives = p.survives }

  -- A run with a result is a run for what follows from it.
  pub runs_as_well : (x : X) (z : Z) → (R x a.now b.now → T z a.now b.now) → Runs R a b (Ok x) → Runs T a b (Ok z)
  runs_as_well x z turns p = record { done = λ clean on. let it = p.done clean on in (turns it.0, it.1); kept = p.kept; survives = p.survives }

  -- A result can be followed by an error.
  pub runs_ok_err : (x : X) (f : Error) → Runs R a b (Ok x) → Runs T a b (Err f)
  runs_ok_err x f p = record { done = λ clean on. tt; kept = p.kept; survives = p.survives }

  -- A result that is computed from another is a run.
  pub runs_made : (Q : Z → Type 0) (x : X) (r : Result Z Error) → IfOk r Q → ((z : Z) → Q z → R x a.now b.now → T z a.now b.now) → Runs R a b (Ok x) → Runs T a b r
  runs_made Q x (Ok z) made turns p = runs_as_well x z (turns z made) p
  runs_made Q x (Err e) made turns p = runs_ok_err x e p

-- A run is a run for a weaker relation.
pub runs_weaker : {X : Type 0} (R T : X → Database → Database → Type 0) (a b : State) (r : Result X Error) → ((x : X) → R x a.now b.now → T x a.now b.now) → Runs R a b r → Runs T a b r
runs_weaker R T a b (Ok x) turns p = runs_as_well R T a b x x (turns x) p
runs_weaker R T a b (Err e) turns p = runs_err R T a b e e p

-- ---- no statement

pub runs_none : {X : Type 0} (R : X → Database → Database → Type 0) (a : State) (x : X) → R x a.now a.now → Runs R a a (Ok x)
runs_none R a x holds = record {
  done = λ clean on. (holds, record { inside = on; committed = refl });
  kept = λ clean on. record { was_open = λ o. o; committed = λ _. refl };
  survives = record { clean = omega arith; shield = λ h. h; counts = omega arith; limit = refl; closes = λ clean o. inl o; crash = λ clean db h. inl h };
}
