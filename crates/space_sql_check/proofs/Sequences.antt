-- Lemmas about reads in sequence.
use Rattle.std.proofs.Common.{◌≡◌, Ok, Err, Result, IfOk, ap, subst, ◌∙◌, arith}
use Rattle.std.specs.Prelude.{IsErr, IfSome, Option, Some, None}
use Rattle.sqlite.specs.Effect.{Database, IsDatabase}
use Rattle.sqlite.specs.declared.error.Error.{Error}
use Rattle.sqlite.specs.State.{State, HasCleanDisk, IsLive}
use Rattle.sqlite.proofs.StateLemmas.{survives_then}
use Rattle.space_sql_schema.specs.Tables.{dss_schema}
use Rattle.space_sql_load.specs.declared.table_check.TableCheck.{TableCheck}
use Rattle.space_sql_load.specs.Checking.{JudgesDatabase}
use Rattle.space_sql_check.specs.declared.pieces.Verdict.{Verdict}
use Rattle.space_sql_check.specs.Checking.{JudgesPieces, JudgesSound}
use Rattle.space_sql_select.specs.Reading.{Reads, ReadsAlone, ReadsAlive}

-- A read, followed by a check of what was read, is a read.
pub reads_so : {X Y : Type 0} (P : Database → X → Type 0) (Q : Database → Y → Type 0) (a d : State) (x : X) (r : Result Y Error) → ((db : Database) → db.schema ≡ dss_schema → P db x → IfOk r (Q db)) → Reads P a d (Ok x) → Reads Q a d r
reads_so P Q a d x (Ok y) f p = record { answer = λ clean has. f a.now has (p.answer clean has); same = p.same; kept = p.kept; survives = p.survives }
reads_so P Q a d x (Err e) f p = record { answer = λ clean. tt; same = λ clean. tt; kept = p.kept; survives = p.survives }

-- The same in a separate transaction.
pub alone_so : {X Y : Type 0} (P : Database → X → Type 0) (Q : Database → Y → Type 0) (a d : State) (x : X) (r : Result Y Error) → ((db : Database) → db.schema ≡ dss_schema → P db x → IfOk r (Q db)) → ReadsAlone P a d (Ok x) → ReadsAlone Q a d r
alone_so P Q a d x (Ok y) f p = record { answer = λ clean has. f a.now has (p.answer clean has); back = p.back; survives = p.survives }
alone_so P Q a d x (Err e) f p = record { answer = λ clean. tt; back = p.back; survives = p.survives }

-- A result of any kind that claims nothing.
pub alone_silent : {X Y : Type 0} (P : Database → X → Type 0) (Q : Database → Y → Type 0) (a d : State) (r : Result X Error) (s : Result Y Error) → ((db : Database) → IfOk s (Q db)) → ReadsAlone P a d r → ReadsAlone Q a d s
alone_silent P Q a d r (Ok y) f p = record { answer = λ clean has. f a.now; back = p.back; survives = p.survives }
alone_silent P Q a d r (Err e) f p = record { answer = λ clean. tt; back = p.back; survives = p.survives }

-- A read that is followed by another one, of which each leaves the store alive.
pub alive_then : {X Y : Type 0} (P : Database → X → Type 0) (Q : Database → Y → Type 0) (a b d : State) (x : X) (r : Result Y Error) → ReadsAlive P a b (Ok x) → ReadsAlive Q b d r → ReadsAlive Q a d r
alive_then P Q a b d x (Ok y) p q =
    let mid = λ (clean : HasCleanDisk d). let c : HasCleanDisk b = omega (arith, q.survives.clean) in c in
    let same = λ (clean : HasCleanDisk d) (has : a.now.schema ≡ dss_schema). (p.rests (mid clean) has).1 in
    let there = λ (clean : HasCleanDisk d) (has : a.now.schema ≡ dss_schema). let h : b.now.schema ≡ dss_schema = ap (λ (db : Database). db.schema) (same clean has) ∙ has in h in
    record {
      answer = λ clean has. subst (λ (db : Database). Q db y) (same clean has) (q.answer clean (there clean has));
      rests = λ clean has. let rest = q.rests clean (there clean has) in (rest.0, rest.1 ∙ same clean has);
      is_open = q.is_open;
      survives = survives_then a b d _ _ (λ _. ⊥) (λ _ db none. none) (λ _ db none. none) p.survives q.survives;
    }
alive_then P Q a b d x (Err e) p q = record { answer = λ clean. tt; rests = λ clean. tt; is_open = λ clean. tt; survives = survives_then a b d _ _ (λ _. ⊥) (λ _ db none. none) (λ _ db none. none) p.survives q.survives }

-- An error says nothing more.
pub reads_stopped : {X Y : Type 0} (P : Database → X → Type 0) (Q : Database → Y → Type 0) (a d : State) (e : Error) (r : Result Y Error) → IsErr r → Reads P a d (Err e) → Reads Q a d r
reads_stopped P Q a d e (Ok y) is p = absurd (let bad = is in cc)
reads_stopped P Q a d e (Err f) is p = record { answer = λ clean. tt; same = λ clean. tt; kept = p.kept; survives = p.survives }

-- ---- with facts about the connection

-- A read of a database that obeys its schema is a read, if the connection shows such a database
-- after it.
pub alive_sound : (old new : State) (v : Verdict) → IsLive new → ReadsAlive JudgesSound old new (Ok v) → ReadsAlive JudgesPieces old new (Ok v)
alive_sound old new v live p = record {
  answer = λ clean has. (p.answer clean has).told has (subst IsDatabase (p.rests clean has).1 (live (p.is_open clean)).0);
  rests = p.rests;
  is_open = p.is_open;
  survives = p.survives;
}

-- What was checked at once, or `None` if memory ran out.
pub alone_memory : (a d : State) (r : Result TableCheck Error) (o : Option TableCheck) → IfSome o (λ check. r ≡ Ok check) → ReadsAlone JudgesDatabase a d r → ReadsAlone (λ db o. IfSome o (JudgesDatabase db)) a d (Ok o)
alone_memory a d r (Some check) is p = alone_so JudgesDatabase (λ db o. IfSome o (JudgesDatabase db)) a d check (Ok (Some check)) (λ db has h. h) (subst (ReadsAlone JudgesDatabase a d) is p)
alone_memory a d r None is p = alone_silent JudgesDatabase (λ db o. IfSome o (JudgesDatabase db)) a d r (Ok None) (λ db. tt) p
