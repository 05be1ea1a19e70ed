-- Proofs that tables of the old order are created anew with the same rows.
use Rattle.std.proofs.Common.{◌≡◌, List, [], ◌∷◌, map, inl, Ok, Err, Result, OnOk, refl, sym, subst, arith}
use Rattle.std.specs.Prelude.{IsPermutation}
use Rattle.std.proofs.lemmas.List.Sorted.{IsPermutation-refl, length_permutation}
use Rattle.sqlite.proofs.StateLemmas.{survives_then}
use Rattle.sqlite.specs.Effect.{Database, IsDatabase}
use Rattle.sqlite.specs.Schema.{Schema}
use Rattle.sqlite.specs.State.{State}
use Rattle.sqlite.specs.declared.error.Error.{Error}
use Rattle.sqlite.specs.Order.{Row}
use Rattle.sqlite.specs.Tree.{Trees}
use Rattle.space_sql_schema.proofs.Making.{none_apart}
use Rattle.space_sql_schema.proofs.Steps.{keeps_then}
use Rattle.space_sql_schema.specs.Making as making
use Rattle.space_sql_schema.specs.Making.{HasRows, first_rows, four_rows}
use Rattle.space_sql_schema.specs.Tables.{second_schema}
use Rattle.space_sql_select.specs.declared.availability_record.AvailabilityRecord.{AvailabilityRecord}
use Rattle.space_sql_write.specs.Layout.{AreRows}
use Rattle.space_sql_open.specs.Inside.{Inside}
use Rattle.space_sql_open.specs.Relaying.{Carries, HasListed, nothing, with_settings}

-- ---- statements in sequence

pub carried : {X : Type 0} (R : Database → Database → Type 0) (a d : State) (r : Result X Error) → making.Steps R a d r → Carries R a d r
carried R a d (Ok x) h = record { done = λ clean. (h.done clean).0; kept = h.kept; survives = h.survives }
carried R a d (Err e) h = record { done = λ clean. tt; kept = h.kept; survives = h.survives }

pub carries_none : {X : Type 0} (R : Database → Database → Type 0) (a : State) (x : X) → R a.now a.now → Carries R a a (Ok x)
carries_none R a x holds = record {
  done = λ clean. holds;
  kept = λ clean. record { was_open = λ o. o; committed = λ _. refl };
  survives = record { clean = omega arith; shield = λ h. h; counts = omega arith; limit = refl; closes = λ clean o. inl o; crash = λ clean db h. inl h };
}

pub carries_as : {X Y : Type 0} (R T : Database → Database → Type 0) (a d : State) (x : X) (y : Y) → (R a.now d.now → T a.now d.now) → Carries R a d (Ok x) → Carries T a d (Ok y)
carries_as R T a d x y turns p = record { done = λ clean. turns (p.done clean); kept = p.kept; survives = p.survives }

module _ {X Y Z : Type 0} (R Q T : Database → Database → Type 0) (a b d : State) where
  pub carries_then : (x : X) (y : Y) (z : Z) → (R a.now b.now → Q b.now d.now → T a.now d.now) → Carries R a b (Ok x) → Carries Q b d (Ok y) → Carries T a d (Ok z)
  carries_then x y z joins p q = record {
    done = λ clean. joins (p.done (omega (arith, q.survives.clean))) (q.done clean);
    kept = λ clean. keeps_then a b d (p.kept (omega (arith, q.survives.clean))) (q.kept clean);
    survives = survives_then a b d _ _ (λ _. ⊥) (λ _ db none. none) (λ _ db none. none) p.survives q.survives;
  }

  pub carries_failed : (x : X) (e f : Error) → Carries R a b (Ok x) → Carries {X = Y} Q b d (Err e) → Carries {X = Z} T a d (Err f)
  carries_failed x e f p q = record {
    done = λ clean. tt;
    kept = λ clean. keeps_then a b d (p.kept (omega (arith, q.survives.clean))) (q.kept clean);
    survives = survives_then a b d _ _ (λ _. ⊥) (λ _ db none. none) (λ _ db none. none) p.survives q.survives;
  }

pub inside_carries : {X Y F : Type 0} (s : Schema) (R : Database → Database → Type 0) (Q : Database → Database → Result Y F → Type 0) (a d : State) (p : Result X Error) (r : Result Y F) → (a.now.schema ≡ s → OnOk p (R a.now d.now) → Q a.now d.now r) → Carries R a d p → Inside s Q a d r
inside_carries s R Q a d p r f h = record { done = λ clean has. f has (h.done clean); kept = λ clean has. h.kept clean; survives = h.survives }

-- ---- the new tables

none_rows : {X : Type 0} (values : X → Row) (columns : Row → Row) (rows : List Row) → rows ≡ [] → AreRows values columns [] rows
none_rows values columns rows is = record { same = subst (λ rs. IsPermutation [] (map columns rs)) (sym is) (IsPermutation-refl []); apart = none_apart rows is }

-- Tables that were created anew are empty.
pub laid : (trees : Trees) (db : Database) → HasRows second_schema (four_rows trees) db × IsDatabase db → HasListed trees nothing db
laid trees db h = record {
  schema = h.0.0;
  meta = h.0.1.0;
  entities = h.0.1.1.0;
  volumes = h.0.1.1.1.0;
  cells = h.0.1.1.1.1.0;
  settings = none_rows _ _ _ h.0.1.1.1.1.1.0;
  subs = none_rows _ _ _ h.0.1.1.1.1.1.1.0;
  sub_cells = none_rows _ _ _ h.0.1.1.1.1.1.1.1.0;
  namings = none_rows _ _ _ h.0.1.1.1.1.1.1.1.1.0;
  sound = h.1;
}

no_rows : {X : Type 0} (values : X → Row) (columns : Row → Row) (rows : List Row) → AreRows values columns [] rows → rows ≡ []
no_rows values columns [] has = refl
no_rows values columns (r ∷ rows) has = let e = length_permutation [] (map columns (r ∷ rows)) has.same in absurd (omega (arith, e))

-- With rows in `availability` alone, the tables have those of format 1.
pub bare : (trees : Trees) (settings : List AvailabilityRecord) (db : Database) → HasListed trees (with_settings settings nothing) db → HasRows second_schema (first_rows db.trees) db
bare trees settings db has =
    (has.schema, (refl, (refl, (refl, (refl, (refl, (no_rows _ _ _ has.subs, (no_rows _ _ _ has.sub_cells, (no_rows _ _ _ has.namings, tt)))))))))
