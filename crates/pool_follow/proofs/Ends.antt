-- Lemmas: what a follower knows of the end of its log.
use Rattle.std.proofs.Common.{◌≡◌, ◌==◌, ◌≤◌, ℕ, Bool, true, false, List, [], ◌∷◌, ◌++◌, refl, ap, subst, ◌∙◌, append_assoc, arith}
use Rattle.std.specs.Prelude.{if◌then◌else◌, nat_lt, not}
use Rattle.pool_core.specs.Log.{AsksEnd, LogEvent, TellsEnd}
use Rattle.pool_follow.specs.Follower.{KnowsEnd, ReachesEnd, WasAsked, WasTold}
use Rattle.pool_follow.specs.Parts.{reaches, state_after}
use Rattle.pool_follow.specs.declared.end_state.EndState.{EndState}
use Rattle.pool_follow.specs.declared.end_state.EndState.TheVariants.{Asked, Known, Unasked}

-- What is known stays known.
pub knows_more : (events more : List LogEvent) (e : EndState) → KnowsEnd events e → KnowsEnd (events ++ more) e
knows_more events more Unasked h = tt
knows_more events more (Asked question) h = record {
  before = h.before;
  after = h.after ++ more;
  asked = ap (λ v. v ++ more) h.asked ∙ append_assoc h.before (AsksEnd question ∷ h.after) more;
}
knows_more events more (Known count) h = record {
  before = h.before;
  between = h.between;
  after = h.after ++ more;
  question = h.question;
  told = ap (λ v. v ++ more) h.told
      ∙ append_assoc h.before (AsksEnd h.question ∷ (h.between ++ TellsEnd h.question count ∷ h.after)) more
      ∙ ap (λ v. h.before ++ AsksEnd h.question ∷ v) (append_assoc h.between (TellsEnd h.question count ∷ h.after) more);
}

-- The question that was asked last.
pub knows_asked : (events : List LogEvent) (question : ℕ) → KnowsEnd (events ++ AsksEnd question ∷ []) (Asked question)
knows_asked events question = record { before = events; after = []; asked = refl }

was_told : (events : List LogEvent) (question count : ℕ) → WasAsked events question → WasTold (events ++ TellsEnd question count ∷ []) count
was_told events question count h = record {
  before = h.before;
  between = h.after;
  after = [];
  question = question;
  told = ap (λ v. v ++ TellsEnd question count ∷ []) h.asked ∙ append_assoc h.before (AsksEnd question ∷ h.after) (TellsEnd question count ∷ []);
}

told_case : (events : List LogEvent) (question count q : ℕ) (b : Bool) → (question == q) ≡ b → WasAsked events q → KnowsEnd (events ++ TellsEnd question count ∷ []) (if b then Known count else Asked q)
told_case events question count q true is h =
    let same : q ≡ question = grind (arith, is) in was_told events question count (subst (λ (v : ℕ). WasAsked events v) same h)
told_case events question count q false is h = knows_more events (TellsEnd question count ∷ []) (Asked q) h

-- An answer to the question makes the end known.
pub knows_told : (events : List LogEvent) (question count : ℕ) (e : EndState) → KnowsEnd events e → KnowsEnd (events ++ TellsEnd question count ∷ []) (state_after question count e)
knows_told events question count Unasked h = tt
knows_told events question count (Asked q) h = told_case events question count q (question == q) refl h
knows_told events question count (Known n) h = knows_more events (TellsEnd question count ∷ []) (Known n) h

reached_case : (taken count : ℕ) (b : Bool) → nat_lt taken count ≡ b → not b ≡ true → count ≤ taken
reached_case taken count true is h = absurd cc
reached_case taken count false is h = grind (arith, is)

-- A known end that is reached.
pub knows_reached : (events : List LogEvent) (taken : ℕ) (e : EndState) → KnowsEnd events e → reaches taken e ≡ true → ReachesEnd events taken
knows_reached events taken Unasked h r = absurd cc
knows_reached events taken (Asked q) h r = absurd cc
knows_reached events taken (Known count) h r = record { count = count; told = h; reached = reached_case taken count (nat_lt taken count) refl r }
