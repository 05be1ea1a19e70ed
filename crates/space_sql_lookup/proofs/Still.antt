-- Lemmas about reads that have not begun, and about further facts of a read.
use Rattle.std.proofs.Common.{Ok, Err, Result, inl, refl, arith}
use Rattle.sqlite.specs.Effect.{Database}
use Rattle.sqlite.specs.declared.error.Error.{Error}
use Rattle.sqlite.specs.State.{State}
use Rattle.space_sql_select.specs.Reading.{Reads}

pub reads_weaker : {X : Type 0} (P Q : Database → X → Type 0) (a d : State) (r : Result X Error) → ((db : Database) (x : X) → P db x → Q db x) → Reads P a d r → Reads Q a d r
reads_weaker P Q a d (Ok x) f p = record { answer = λ clean has. f a.now x (p.answer clean has); same = p.same; kept = p.kept; survives = p.survives }
reads_weaker P Q a d (Err e) f p = record { answer = λ clean. tt; same = λ clean. tt; kept = p.kept; survives = p.survives }

-- Before the first statement, any P that holds of all databases is a read.
pub reads_still : {X : Type 0} (P : Database → X → Type 0) (a : State) (x : X) → ((db : Database) → P db x) → Reads P a a (Ok x)
reads_still P a x p = record { answer = λ clean has. p a.now; same = λ clean has. refl; kept = λ clean has. record { was_open = λ o. o; committed = λ _. refl }; survives = record { clean = omega arith; shield = λ h. h; counts = omega arith; limit = refl; closes = λ clean o. inl o; crash = λ clean db h. inl h } }
