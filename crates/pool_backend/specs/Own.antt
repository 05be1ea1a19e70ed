-- What the parts of an instance do in an advance.
use Rattle.std.specs.Prelude.{◌≡◌, ◌⊎◌, ℕ, Bool, true, false, List, [], ◌∷◌, ◌++◌, All, MatchResult, Option, Result, map}
use Rattle.policy_core.specs.declared.call.Call.{Call}
use Rattle.service_step.specs.declared.reply.Reply.{Reply}
use Rattle.service_step.specs.declared.reply.Reply.TheVariants as replies
use Rattle.space_core.specs.declared.space.Space as spaces
use Rattle.wire_http.specs.declared.unavailable.Unavailable.{Unavailable}
use Rattle.wire_http.specs.declared.unavailable.Unavailable.TheVariants.{Unassigned, Unknown, Unreachable}
use Rattle.pool_core.specs.Events.{Drops, Fails, InstanceEvent}
use Rattle.pool_core.specs.declared.log.Log as logs
use Rattle.pool_instance.specs.Does.{Did, in_place}
use Rattle.pool_instance.specs.Parts.{retention_in}
use Rattle.pool_instance.specs.declared.instance.Instance.{Instance}
use Rattle.pool_instance.specs.declared.outcome.Outcome.{Outcome as ReadingOutcome}
use Rattle.pool_instance.specs.declared.outcome.Outcome.TheVariants.{Failed, Replied}
use Rattle.pool_instance.specs.declared.outcome.Unanswered.{Unanswered}
use Rattle.pool_instance.specs.declared.outcome.Unanswered.TheVariants as unanswered
use Rattle.server_backend.specs.declared.outcome.Outcome.{Outcome}
use Rattle.server_backend.specs.declared.outcome.Outcome.TheVariants as outcomes
use Rattle.server_backend.specs.declared.outcome.Received.{Received}
use Rattle.pool_backend.specs.Pool.{AreGivenIn, MayDo, ReceivesAs}
use Rattle.pool_backend.specs.declared.pool.PoolInstance.{PoolInstance}

-- Holds if the instance did events that it may do in an advance.
pub record DoesOwn {L S : Type 0} (gl : logs.Ghosts L) (gs : spaces.Ghosts S) (moment : Option ℕ)
    (held : Bool) (old new : Instance L S) : Type 0 where
  pub events : List InstanceEvent
  pub did : Did gl gs old events new
  pub allowed : All (MayDo (retention_in old) moment held) events

-- The event in which a request failed.
abbrev pub failure_of : Unanswered → (id : ℕ) → InstanceEvent
failure_of unanswered.Unsent id = Drops id
failure_of unanswered.Unknown id = Fails id

-- The reason for status 503, after the instance failed a request. The instance may act for the USS
-- of the request, or not.
abbrev pub reason_of : (assigned : Bool) → Unanswered → Unavailable
reason_of true unanswered.Unsent = Unreachable
reason_of false unanswered.Unsent = Unassigned
reason_of assigned unanswered.Unknown = Unknown

-- The outcome of a reading. After a fault of the service its reply is `Fault`.
abbrev pub outcome_of : ReadingOutcome → Outcome
outcome_of (Replied id reply) = outcomes.Replied reply
outcome_of (Failed id) = outcomes.Replied replies.Fault

-- Holds if this outcome was put behind those that are to be given, or none was, since the
-- request does not wait.
abbrev pub MayGive : (ticket : ℕ) → Outcome → (old new : List (ℕ × Outcome)) → Type 0
MayGive ticket outcome old new = (new ≡ old) ⊎ (new ≡ old ++ (ticket, outcome) ∷ [])

-- Holds if some of these replies were put behind the outcomes that are to be given.
abbrev pub GivesAmong : List (ℕ × Reply) → (old new : List (ℕ × Outcome)) → Type 0
GivesAmong told old new = (given : List (ℕ × Outcome)) × (new ≡ old ++ given)
    × AreGivenIn (map in_place told) given

-- Holds if a request was received so, or memory ran out and nothing was done.
abbrev pub Admits : {L I S E : Type 0} → logs.Ghosts L → spaces.Ghosts S → (moment : ℕ) → Call
    → Result Received E → PoolInstance L I S → PoolInstance L I S → Type 0
Admits gl gs moment call result x x' = MatchResult result
    (λ received. ReceivesAs gl gs moment call received x x') (λ _. x' ≡ x)
