-- Lemmas about steps in a transaction, in sequence.
use Rattle.std.proofs.Common.{◌≡◌, Ok, Err, Result, IfOk, OnOk, sym, subst, arith}
use Rattle.std.specs.Prelude.{IfErr, MatchResult}
use Rattle.sqlite.specs.Effect.{Database}
use Rattle.sqlite.specs.Schema.{Schema}
use Rattle.sqlite.specs.State.{State, HasCleanDisk}
use Rattle.sqlite.specs.declared.error.Error.{Error}
use Rattle.sqlite.proofs.StateLemmas.{survives_then}
use Rattle.space_sql_schema.specs.Making as making
use Rattle.space_sql_schema.proofs.Steps.{keeps_then}
use Rattle.space_sql_schema.specs.Tables.{dss_schema}
use Rattle.space_sql_select.specs.Reading.{Reads}
use Rattle.space_sql_load.specs.Checking.{JudgesDatabase, loaded_airspace}
use Rattle.space_sql_load.specs.declared.table_check.LoadedAirspace.{LoadedAirspace}
use Rattle.space_sql_load.specs.declared.table_check.TableCheck.{TableCheck}
use Rattle.space_sql_open.specs.Inside.{Inside}
use Rattle.space_sql_open.specs.Upgrading.{Judges}
use Rattle.space_sql_open.specs.Opening.{ChecksTables}
use Rattle.space_sql_open.specs.declared.open_fault.OpenFault.{OpenFault}
use Rattle.space_sql_open.specs.declared.open_fault.OpenFault.TheVariants.{NotADss, Version, Store}

-- The same facts, with another result.
pub inside_as : {X Y E F : Type 0} (s : Schema) (P : Database → Database → Result X E → Type 0) (R : Database → Database → Result Y F → Type 0) (a d : State) (p : Result X E) (r : Result Y F) → (a.now.schema ≡ s → P a.now d.now p → R a.now d.now r) → Inside s P a d p → Inside s R a d r
inside_as s P R a d p r f x = record { done = λ clean has. f has (x.done clean has); kept = x.kept; survives = x.survives }

pub inside_then : {X Y Z E F G : Type 0} (s t : Schema) (P : Database → Database → Result X E → Type 0) (Q : Database → Database → Result Y F → Type 0) (R : Database → Database → Result Z G → Type 0) (a b d : State) (p : Result X E) (q : Result Y F) (r : Result Z G)
    → (a.now.schema ≡ s → P a.now b.now p → b.now.schema ≡ t) → (a.now.schema ≡ s → P a.now b.now p → Q b.now d.now q → R a.now d.now r) → Inside s P a b p → Inside t Q b d q → Inside s R a d r
inside_then s t P Q R a b d p q r next joins x y =
    let mid = λ (clean : HasCleanDisk d). let c : HasCleanDisk b = omega (arith, y.survives.clean) in c in
    record {
      done = λ clean has. let first = x.done (mid clean) has in joins has first (y.done clean (next has first));
      kept = λ clean has. keeps_then a b d (x.kept (mid clean) has) (y.kept clean (next has (x.done (mid clean) has)));
      survives = survives_then a b d _ _ (λ _. ⊥) (λ _ db none. none) (λ _ db none. none) x.survives y.survives;
    }

-- Statements that write are steps within a transaction.
pub inside_steps : {X Y F : Type 0} (s : Schema) (R : Database → Database → Type 0) (Q : Database → Database → Result Y F → Type 0) (a d : State) (p : Result X Error) (r : Result Y F) → (a.now.schema ≡ s → OnOk p (R a.now d.now) → Q a.now d.now r) → making.Steps R a d p → Inside s Q a d r
inside_steps {X} s R Q a d (Ok x) r f h = record { done = λ clean has. f has ((h.done clean).0); kept = λ clean has. h.kept clean; survives = h.survives }
inside_steps {X} s R Q a d (Err e) r f h = record { done = λ clean has. f has tt; kept = λ clean has. h.kept clean; survives = h.survives }

-- The check of what was read decides the result.
judged : (old new : Database) (r : Result LoadedAirspace OpenFault) (s : Result (Unit {0}) OpenFault) → MatchResult r (λ x. s ≡ Ok tt) (λ fault. s ≡ Err fault) → new ≡ old → ChecksTables old r → Judges old new s
judged old new (Ok x) s is same it = subst (Judges old new) (sym is) ((loaded_airspace x, it), same)
judged old new (Err NotADss) s is same it = subst (Judges old new) (sym is) it
judged old new (Err Version) s is same it = subst (Judges old new) (sym is) it
judged old new (Err Store) s is same it = subst (Judges old new) (sym is) it

pub inside_judged : (a d : State) (p : Result TableCheck Error) (q : Result LoadedAirspace OpenFault) (r : Result (Unit {0}) OpenFault) → MatchResult q (λ x. r ≡ Ok tt) (λ fault. r ≡ Err fault) → IfErr p (λ _. q ≡ Err Store) → ((db : Database) → IfOk p (JudgesDatabase db) → ChecksTables db q) → Reads JudgesDatabase a d p → Inside dss_schema Judges a d r
inside_judged a d (Ok v) q r is failed told x = record { done = λ clean has. judged a.now d.now q r is (x.same clean has) (told a.now (x.answer clean has)); kept = x.kept; survives = x.survives }
inside_judged a d (Err e) q r is failed told x = record { done = λ clean has. subst (Judges a.now d.now) (sym (subst (λ o. MatchResult o (λ x. r ≡ Ok tt) (λ fault. r ≡ Err fault)) failed is)) tt; kept = x.kept; survives = x.survives }
