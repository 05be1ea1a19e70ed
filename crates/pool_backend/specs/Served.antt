-- What follows for an instance of a pool, and for its outcomes.
use Rattle.std.specs.Prelude.{◌≡◌, ◌⊎◌, ℕ, List, [], ◌∷◌, ◌++◌, All, Option}
use Rattle.entity_core.specs.Airspace.{Airspace}
use Rattle.policy_core.specs.declared.call.Call.{Call}
use Rattle.service_step.specs.declared.reply.Reply.TheVariants as replies
use Rattle.space_core.specs.declared.space.Space as spaces
use Rattle.pool_core.specs.Events.{AfterFirst, Answers, AtOnce, Drops, Fails, InstanceEvent, Receives, log_events}
use Rattle.pool_core.specs.Log.{Continues, LogEvent}
use Rattle.pool_core.specs.Serves.{ServesPool}
use Rattle.pool_core.specs.declared.log.Log as logs
use Rattle.pool_entry.specs.Acts.{acts_of}
use Rattle.pool_instance.specs.Parts.{log_of, retention_in, salt_in, space_in}
use Rattle.pool_instance.specs.Purging.{AreAgreed}
use Rattle.pool_instance.specs.State.{IsAfter}
use Rattle.pool_instance.specs.declared.instance.Instance.{Instance}
use Rattle.server_backend.specs.BackendEvent.{Advances, Announces, Answers as AnswersLate, BackendEvent, Forgets, Gives, GivesNone, Receives as ReceivesRequest, Settles, Stops}
use Rattle.server_backend.specs.Does.{DoesAll}
use Rattle.server_backend.specs.declared.outcome.Outcome.{Outcome}
use Rattle.server_backend.specs.declared.outcome.Outcome.TheVariants as outcomes
use Rattle.server_backend.specs.declared.outcome.Received.{Received}
use Rattle.server_backend.specs.declared.outcome.Received.TheVariants as came
use Rattle.pool_backend.specs.Pool.{AreGivenIn, IsFailure, IsGivenIn, MayDo, StepsAs, failure_for, instance_of, outcomes_of, retention_of}
use Rattle.pool_backend.specs.declared.pool.PoolInstance.{PoolInstance}

-- ---- events

-- Holds if these are the events of the instance for a request: it was received with its call, and
-- denied at once at its time, or waits under its number. A request that is refused has none.
abbrev pub AreOfReceipt : (moment : ℕ) → Call → Received → List InstanceEvent → Type 0
AreOfReceipt moment call (came.Answered reply) events = (id : ℕ)
    × (events ≡ Receives id call ∷ Answers id (AtOnce (moment, call)) reply ∷ [])
AreOfReceipt moment call (came.Drafted ticket reply) events = ⊥
AreOfReceipt moment call (came.Waits ticket) events = events ≡ Receives ticket call ∷ []
AreOfReceipt moment call (came.Refused reason) events = events ≡ []

-- Holds if these are the events of the instance for a request that was answered after the end of the
-- log: its call was made at its time. One without a reply was never offered.
abbrev pub AreOfAnswer : (moment ticket : ℕ) → Outcome → List InstanceEvent → Type 0
AreOfAnswer moment ticket outcomes.Stands events = ⊥
AreOfAnswer moment ticket (outcomes.Replied reply) events =
    ((count : ℕ) × (call : Call)
    × (events ≡ Answers ticket (AfterFirst count (moment, call)) reply ∷ []))
    ⊎ ((reply ≡ replies.Fault) × (events ≡ Drops ticket ∷ []))
AreOfAnswer moment ticket (outcomes.Unavailable reason) events =
    events ≡ failure_for reason ticket ∷ []

-- Holds if these are the events of the instance for an event of the backend.
abbrev pub AreOf : (retention : Option ℕ) → BackendEvent → List InstanceEvent → Type 0
AreOf retention (ReceivesRequest moment call received) events =
    AreOfReceipt moment call received events
AreOf retention Settles events = events ≡ []
AreOf retention (Advances moment held now) events = All (MayDo retention moment held) events
AreOf retention (Gives ticket outcome) events = events ≡ []
AreOf retention GivesNone events = events ≡ []
AreOf retention (Announces ticket) events = events ≡ []
AreOf retention (AnswersLate moment ticket outcome) events =
    AreOfAnswer moment ticket outcome events
AreOf retention (Forgets ticket) events =
    (events ≡ []) ⊎ ((events ≡ Drops ticket ∷ []) ⊎ (events ≡ Fails ticket ∷ []))
AreOf retention Stops events = All IsFailure events

-- Holds if these are the events of the instance, a list for each event of the backend.
abbrev pub AreParts : (retention : Option ℕ) → List BackendEvent → List (List InstanceEvent)
    → Type 0
AreParts retention [] [] = Unit {0}
AreParts retention [] (part ∷ parts) = ⊥
AreParts retention (event ∷ events) [] = ⊥
AreParts retention (event ∷ events) (part ∷ parts) =
    AreOf retention event part × AreParts retention events parts

-- The events in all parts.
abbrev pub events_in : List (List InstanceEvent) → List InstanceEvent
events_in [] = []
events_in (part ∷ parts) = part ++ events_in parts

-- ---- outcomes

-- Holds if the outcome that is given in an event was given by the instance in those before.
abbrev pub IsKnown : (before : List InstanceEvent) → BackendEvent → Type 0
IsKnown before (ReceivesRequest moment call received) = Unit {0}
IsKnown before Settles = Unit {0}
IsKnown before (Advances moment held now) = Unit {0}
IsKnown before (Gives ticket outcome) = IsGivenIn before ticket outcome
IsKnown before GivesNone = Unit {0}
IsKnown before (Announces ticket) = Unit {0}
IsKnown before (AnswersLate moment ticket outcome) = Unit {0}
IsKnown before (Forgets ticket) = Unit {0}
IsKnown before Stops = Unit {0}

-- Holds if each outcome that is given in these events was given by the instance before.
abbrev pub AreKnown : (before : List InstanceEvent) → List BackendEvent
    → List (List InstanceEvent) → Type 0
AreKnown before [] [] = Unit {0}
AreKnown before [] (part ∷ parts) = ⊥
AreKnown before (event ∷ events) [] = ⊥
AreKnown before (event ∷ events) (part ∷ parts) =
    IsKnown before event × AreKnown (before ++ part) events parts

-- ---- the pool

module _ {L S : Type 0} (gl : logs.Ghosts L) (gs : spaces.Ghosts S) where
  -- Holds if an instance served its clients as one of a pool, in the events before and in these. The
  -- log was used as the events say. Each purge that it offered keeps the retention by a call of
  -- another instance.
  pub record ServesOn (past : Option (List LogEvent)) (start : Airspace)
      (before these : List InstanceEvent) (old new : Instance L S) : Type 0 where
    pub after : IsAfter gl gs past start (before ++ these) new
    pub serves : gs.is_sound (space_in new) → ServesPool acts_of (salt_in old) start
        (gl.writer (log_of old)) (before ++ these)
    pub agreed : AreAgreed (retention_in old) (gl.writer (log_of old)) (before ++ these)
    pub logged : Continues past (gl.history (log_of new)) (log_events (before ++ these))

module _ {L I S : Type 0} (gl : logs.Ghosts L) (gs : spaces.Ghosts S) where
  -- The events of the instance for those of its backend. With them it serves on, whatever it did
  -- before and whatever its log had.
  pub record Story (events : List BackendEvent) (old new : PoolInstance L I S) : Type 0 where
    pub parts : List (List InstanceEvent)
    pub are_parts : AreParts (retention_of old) events parts
    pub serves : (past : Option (List LogEvent)) (start : Airspace) (before : List InstanceEvent)
        → IsAfter gl gs past start before (instance_of old)
        → ServesOn gl gs past start before (events_in parts) (instance_of old) (instance_of new)

-- ---- laws, of instances with the input and output `I`

-- States that the events of a backend are those of an instance of a pool.
abbrev pub EventsAreThePools : {L S : Type 0} → (I : Type 0) → logs.Ghosts L → spaces.Ghosts S
    → Type 0
EventsAreThePools {L} {S} I gl gs = (events : List BackendEvent) (old new : PoolInstance L I S)
    → DoesAll (StepsAs gl gs) events old new → Story gl gs events old new

-- States that a reply is given only after the instance answered so, and a reason for status 503 only
-- after the request failed.
abbrev pub OutcomesAreGiven : {L S : Type 0} → (I : Type 0) → logs.Ghosts L → spaces.Ghosts S
    → Type 0
OutcomesAreGiven {L} {S} I gl gs = (events : List BackendEvent) (old new : PoolInstance L I S)
    → DoesAll (StepsAs gl gs) events old new
    → (story : Story gl gs events old new) × ((before : List InstanceEvent)
    → AreGivenIn before (outcomes_of old) → AreKnown before events story.parts)
