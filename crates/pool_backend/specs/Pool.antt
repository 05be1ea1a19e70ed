-- How an event changes an instance of a pool, as a backend.
use Rattle.std.specs.Prelude.{◌≡◌, ◌≤◌, ◌+◌, ◌⊎◌, ℕ, Bool, false, List, [], ◌∷◌, ◌++◌, All, Contains, IfSome, Option, Some, None, length}
use Rattle.policy_core.specs.declared.call.Call.{Call}
use Rattle.service_step.specs.declared.reply.Reply.TheVariants as replies
use Rattle.space_core.specs.declared.space.Space as spaces
use Rattle.wire_http.specs.declared.unavailable.Unavailable.{Unavailable}
use Rattle.wire_http.specs.declared.unavailable.Unavailable.TheVariants.{Unassigned, Unknown, Unreachable}
use Rattle.pool_core.specs.Acts.{Act, Makes, Purges}
use Rattle.pool_core.specs.Events.{AfterFirst, Answers, AsksForEnd, AtOnce, Drops, Fails, Gets, InPlace, InstanceEvent, LearnsEnd, Offers, Receives}
use Rattle.pool_core.specs.declared.log.Log as logs
use Rattle.pool_entry.specs.Acts.{acts_of}
use Rattle.pool_instance.specs.Does.{Did}
use Rattle.pool_instance.specs.Parts.{IsDueAt, count_received, count_taken, readings_in, retention_in}
use Rattle.pool_instance.specs.declared.instance.Instance.{Instance}
use Rattle.server_backend.specs.BackendEvent.{Advances, Announces, Answers as AnswersLate, BackendEvent, Forgets, Gives, GivesNone, Receives as ReceivesRequest, Settles, Stops}
use Rattle.server_backend.specs.declared.outcome.Outcome.{Outcome}
use Rattle.server_backend.specs.declared.outcome.Outcome.TheVariants as outcomes
use Rattle.server_backend.specs.declared.outcome.Received.{Received}
use Rattle.server_backend.specs.declared.outcome.Received.TheVariants as came
use Rattle.pool_backend.specs.Waiting.{given_by}
use Rattle.pool_backend.specs.declared.pool.PoolInstance.{PoolInstance}

abbrev pub instance_of : {L I S : Type 0} → PoolInstance L I S → Instance L S
instance_of x = x.instance

-- The outcomes that are still to be given, in order, each with its ticket.
abbrev pub outcomes_of : {L I S : Type 0} → PoolInstance L I S → List (ℕ × Outcome)
outcomes_of x = given_by x.waiting

-- How many outcomes are still to be given.
abbrev pub left_of : {L I S : Type 0} → PoolInstance L I S → ℕ
left_of x = length (outcomes_of x)

-- A ticket is the number of a request at the instance. This is the next one.
abbrev pub tickets_of : {L I S : Type 0} → PoolInstance L I S → ℕ
tickets_of x = count_received (instance_of x)

abbrev pub retention_of : {L I S : Type 0} → PoolInstance L I S → Option ℕ
retention_of x = retention_in (instance_of x)

-- ---- times

-- Holds if a call has this time, or what a purge removes ended at least the retention before it.
-- There is no purge while the clock is held as wrong.
abbrev pub IsActAt : (retention : Option ℕ) → (held : Bool) → (moment : ℕ) → Act → Type 0
IsActAt retention held moment (Makes timed) = timed.0 ≡ moment
IsActAt retention held moment (Purges until) = (held ≡ false)
    × ((seconds : ℕ) × (retention ≡ Some seconds) × (until + seconds ≤ moment))

-- Holds if these bytes may be offered: their acts have the time that the clock returned. Without a
-- time nothing is offered.
abbrev pub MayOffer : (retention moment : Option ℕ) → (held : Bool) → (bytes : List ℕ) → Type 0
MayOffer retention None held bytes = ⊥
MayOffer retention (Some time) held bytes = All (IsActAt retention held time) (acts_of bytes)

-- Holds if the instance may do this in an advance. It receives no request, and answers none but in
-- its place in the log.
abbrev pub MayDo : (retention moment : Option ℕ) → (held : Bool) → InstanceEvent → Type 0
MayDo retention moment held (Receives id call) = ⊥
MayDo retention moment held (Offers ids bytes) = MayOffer retention moment held bytes
MayDo retention moment held (Gets entry) = Unit {0}
MayDo retention moment held (AsksForEnd question) = Unit {0}
MayDo retention moment held (LearnsEnd question count) = Unit {0}
MayDo retention moment held (Answers id InPlace reply) = Unit {0}
MayDo retention moment held (Answers id (AfterFirst count timed) reply) = ⊥
MayDo retention moment held (Answers id (AtOnce timed) reply) = ⊥
MayDo retention moment held (Fails id) = Unit {0}
MayDo retention moment held (Drops id) = Unit {0}

-- Holds if a request failed.
abbrev pub IsFailure : InstanceEvent → Type 0
IsFailure (Receives id call) = ⊥
IsFailure (Offers ids bytes) = ⊥
IsFailure (Gets entry) = ⊥
IsFailure (AsksForEnd question) = ⊥
IsFailure (LearnsEnd question count) = ⊥
IsFailure (Answers id basis reply) = ⊥
IsFailure (Fails id) = Unit {0}
IsFailure (Drops id) = Unit {0}

-- ---- outcomes

-- The event in which a request fails for this reason. A request that was offered may be made; the
-- call of any other one is never made.
abbrev pub failure_for : Unavailable → (ticket : ℕ) → InstanceEvent
failure_for Unreachable ticket = Drops ticket
failure_for Unassigned ticket = Drops ticket
failure_for Unknown ticket = Fails ticket

-- Holds if the instance gave a request this outcome in these events: its reply, or its failure.
abbrev pub IsGivenIn : List InstanceEvent → (ticket : ℕ) → Outcome → Type 0
IsGivenIn events ticket outcomes.Stands = ⊥
IsGivenIn events ticket (outcomes.Replied reply) = Contains events (Answers ticket InPlace reply)
IsGivenIn events ticket (outcomes.Unavailable reason) = Contains events (failure_for reason ticket)

abbrev pub AreGivenIn : List InstanceEvent → List (ℕ × Outcome) → Type 0
AreGivenIn events given = All (λ (each : ℕ × Outcome). IsGivenIn events each.0 each.1) given

-- ---- steps

-- Holds if the same instance has the same outcomes to give.
pub record IsSame {L I S : Type 0} (x x' : PoolInstance L I S) : Type 0 where
  pub instance : instance_of x' ≡ instance_of x
  pub outcomes : outcomes_of x' ≡ outcomes_of x

-- Holds if the backend of that instance has no outcome to give.
pub record IsNewPool {L I S : Type 0} (instance : Instance L S) (x : PoolInstance L I S) : Type 0 where
  pub instance_is : instance_of x ≡ instance
  pub none : outcomes_of x ≡ []

-- Holds if the instance has a reading with this ticket that can be answered.
abbrev pub IsDue : {L I S : Type 0} → PoolInstance L I S → (ticket : ℕ) → Type 0
IsDue x ticket = (index : ℕ)
    × IsDueAt (count_taken (instance_of x)) (readings_in (instance_of x)) index ticket

module _ {L I S : Type 0} (gl : logs.Ghosts L) (gs : spaces.Ghosts S) where
  -- Holds if the instance did these events, and no outcome is to be given for them.
  pub record DoesFor (events : List InstanceEvent) (x x' : PoolInstance L I S) : Type 0 where
    pub did : Did gl gs (instance_of x) events (instance_of x')
    pub left : outcomes_of x' ≡ outcomes_of x

  -- Holds if the instance did events that it may do, and the outcomes that it gave in them are to be
  -- given.
  pub record DoesBy (may : InstanceEvent → Type 0) (x x' : PoolInstance L I S) : Type 0 where
    pub events : List InstanceEvent
    pub given : List (ℕ × Outcome)
    pub did : Did gl gs (instance_of x) events (instance_of x')
    pub left : outcomes_of x' ≡ outcomes_of x ++ given
    pub allowed : All may events
    pub are_given : AreGivenIn events given

  -- Holds if a request was received so: it was denied at once at this time, waits under the next
  -- ticket, or was not received.
  abbrev pub ReceivesAs : (moment : ℕ) → Call → Received → PoolInstance L I S
      → PoolInstance L I S → Type 0
  ReceivesAs moment call (came.Answered reply) x x' = DoesFor (Receives (tickets_of x) call
      ∷ Answers (tickets_of x) (AtOnce (moment, call)) reply ∷ []) x x'
  ReceivesAs moment call (came.Drafted ticket reply) x x' = ⊥
  ReceivesAs moment call (came.Waits ticket) x x' = (ticket ≡ tickets_of x)
      × DoesFor (Receives ticket call ∷ []) x x'
  ReceivesAs moment call (came.Refused reason) x x' = DoesFor [] x x'

  -- Holds if a request that waited for the end of the log was answered so: at this time after some
  -- entries, or by `Fault` after a fault of the service, or not, since the instance ended. It was never
  -- offered.
  abbrev pub AnswersAs : (moment ticket : ℕ) → Outcome → PoolInstance L I S → PoolInstance L I S
      → Type 0
  AnswersAs moment ticket outcomes.Stands x x' = ⊥
  AnswersAs moment ticket (outcomes.Replied reply) x x' =
      ((count : ℕ) × (call : Call)
      × DoesFor (Answers ticket (AfterFirst count (moment, call)) reply ∷ []) x x')
      ⊎ ((reply ≡ replies.Fault) × DoesFor (Drops ticket ∷ []) x x')
  AnswersAs moment ticket (outcomes.Unavailable reason) x x' =
      DoesFor (failure_for reason ticket ∷ []) x x'

  -- Holds if a request was forgotten: it failed, if it had no outcome yet.
  pub record ForgetsAs (ticket : ℕ) (x x' : PoolInstance L I S) : Type 0 where
    pub events : List InstanceEvent
    pub failure : (events ≡ []) ⊎ ((events ≡ Drops ticket ∷ []) ⊎ (events ≡ Fails ticket ∷ []))
    pub does : DoesFor events x x'

  -- Holds if the event leads from one state to the other.
  abbrev pub StepsAs : PoolInstance L I S → BackendEvent → PoolInstance L I S → Type 0
  StepsAs x (ReceivesRequest moment call received) x' = ReceivesAs moment call received x x'
  StepsAs x Settles x' = x' ≡ x
  StepsAs x (Advances moment held now) x' = DoesBy (MayDo (retention_of x) moment held) x x'
  StepsAs x (Gives ticket outcome) x' = (instance_of x' ≡ instance_of x)
      × (outcomes_of x ≡ (ticket, outcome) ∷ outcomes_of x')
  StepsAs x GivesNone x' = (outcomes_of x ≡ []) × IsSame x x'
  StepsAs x (Announces ticket) x' = DoesFor [] x x' × IfSome ticket (IsDue x)
  StepsAs x (AnswersLate moment ticket outcome) x' = AnswersAs moment ticket outcome x x'
  StepsAs x (Forgets ticket) x' = ForgetsAs ticket x x'
  StepsAs x Stops x' = DoesBy IsFailure x x'
