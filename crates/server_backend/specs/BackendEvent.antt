-- The events of a backend.
use Rattle.std.specs.Prelude.{◌≡◌, ◌<◌, ◌≤◌, ℕ, suc, Bool, true, false, Option, Some, None}
use Rattle.std.specs.declared.time.Duration.{Duration}
use Rattle.policy_core.specs.declared.call.Call.{Call}
use Rattle.server_backend.specs.declared.outcome.Outcome.{Outcome}
use Rattle.server_backend.specs.declared.outcome.Received.{Received}
use Rattle.server_backend.specs.declared.outcome.Received.TheVariants as came

-- An event of a backend. It received a request that makes this call, at a time. It ended a batch.
-- It did what was due at a time of the clock, which may be held as wrong. It gave the outcome of
-- the request with this ticket, or had none to give. It announced which request that waited can be
-- answered now, if any, and answered one, at a time. It forgot a request, or stopped.
pub data BackendEvent : Type 0 where
  Receives : (moment : ℕ) → (call : Call) → (received : Received) → BackendEvent
  Settles : BackendEvent
  Advances : (moment : Option ℕ) → (held : Bool) → (now : Duration) → BackendEvent
  Gives : (ticket : ℕ) → (outcome : Outcome) → BackendEvent
  GivesNone : BackendEvent
  Announces : (ticket : Option ℕ) → BackendEvent
  Answers : (moment : ℕ) → (ticket : ℕ) → (outcome : Outcome) → BackendEvent
  Forgets : (ticket : ℕ) → BackendEvent
  Stops : BackendEvent

-- Holds if a request that got a ticket has one that no earlier request has: `n` is more than all
-- tickets before the event, and `n'` more than all after it. A request without a ticket can use up
-- a number.
abbrev pub TakesNumber : ℕ → Received → ℕ → Type 0
TakesNumber n (came.Answered reply) n' = n ≤ n'
TakesNumber n (came.Drafted ticket reply) n' = (n ≤ ticket) × (n' ≡ suc ticket)
TakesNumber n (came.Waits ticket) n' = (n ≤ ticket) × (n' ≡ suc ticket)
TakesNumber n (came.Refused reason) n' = n ≤ n'

-- The same of every event. Only a receipt takes a ticket.
abbrev pub HasNumber : ℕ → BackendEvent → ℕ → Type 0
HasNumber n (Receives moment call received) n' = TakesNumber n received n'
HasNumber n Settles n' = n' ≡ n
HasNumber n (Advances moment held now) n' = n' ≡ n
HasNumber n (Gives ticket outcome) n' = n' ≡ n
HasNumber n GivesNone n' = n' ≡ n
HasNumber n (Announces ticket) n' = n' ≡ n
HasNumber n (Answers moment ticket outcome) n' = n' ≡ n
HasNumber n (Forgets ticket) n' = n' ≡ n
HasNumber n Stops n' = n' ≡ n

-- Holds if fewer outcomes can be given after one was given. `n` bounds their number before the
-- event, and `n'` after it.
abbrev pub LeavesFewer : ℕ → BackendEvent → ℕ → Type 0
LeavesFewer n (Receives moment call received) n' = Unit {0}
LeavesFewer n Settles n' = Unit {0}
LeavesFewer n (Advances moment held now) n' = Unit {0}
LeavesFewer n (Gives ticket outcome) n' = n' < n
LeavesFewer n GivesNone n' = Unit {0}
LeavesFewer n (Announces ticket) n' = Unit {0}
LeavesFewer n (Answers moment ticket outcome) n' = Unit {0}
LeavesFewer n (Forgets ticket) n' = Unit {0}
LeavesFewer n Stops n' = Unit {0}

-- The outcome that the backend gave in an event, with its ticket.
abbrev pub outcome_in : BackendEvent → Option (ℕ × Outcome)
outcome_in (Receives moment call received) = None
outcome_in Settles = None
outcome_in (Advances moment held now) = None
outcome_in (Gives ticket outcome) = Some (ticket, outcome)
outcome_in GivesNone = None
outcome_in (Announces ticket) = None
outcome_in (Answers moment ticket outcome) = Some (ticket, outcome)
outcome_in (Forgets ticket) = None
outcome_in Stops = None

-- Returns true if the event is the backend's own: no receipt of a request, no outcome, and no
-- advance at a time.
abbrev pub is_own : BackendEvent → Bool
is_own (Receives moment call received) = false
is_own Settles = true
is_own (Advances moment held now) = false
is_own (Gives ticket outcome) = false
is_own GivesNone = true
is_own (Announces ticket) = true
is_own (Answers moment ticket outcome) = false
is_own (Forgets ticket) = true
is_own Stops = true
