-- How an event changes a database.
use Rattle.std.specs.Prelude.{◌≡◌, ◌⊎◌, ◌<◌, ◌≤◌, ◌-◌, ◌||◌, ◌&&◌, ℕ, suc, Bool, true, false, leb, Option, Some, None, Result, Ok, Err}
use Rattle.policy_core.specs.declared.call.Call.{Call}
use Rattle.service_calls.specs.declared.service.Service.{Service}
use Rattle.service_calls.specs.Batches.{IsCommitted}
use Rattle.service_calls.specs.Held.{space_of}
use Rattle.service_calls.specs.Purged.{PurgesOnce}
use Rattle.service_calls.specs.Run.{IsReplyTo}
use Rattle.service_calls.specs.Service.{reply_of}
use Rattle.service_step.specs.declared.call_fault.CallFault.TheVariants as halts
use Rattle.service_step.specs.declared.reply.Reply.{Reply}
use Rattle.space_core.specs.declared.group_commit.GroupCommit as commits
use Rattle.space_core.specs.declared.space.Space as spaces
use Rattle.space_core.specs.declared.space.SpaceFault.{SpaceFault}
use Rattle.server_backend.specs.BackendEvent.{Advances, Announces, Answers, BackendEvent, Forgets, Gives, GivesNone, Receives, Settles, Stops}
use Rattle.server_backend.specs.declared.outcome.Outcome.{Outcome}
use Rattle.server_backend.specs.declared.outcome.Outcome.TheVariants as outcomes
use Rattle.server_backend.specs.declared.outcome.Received.{Received}
use Rattle.server_backend.specs.declared.outcome.Received.TheVariants as came
use Rattle.database_backend.specs.declared.database.Database.{Database}
use Rattle.database_backend.specs.declared.purge_plan.PurgePlan.{PurgePlan}

abbrev pub service_of : {S : Type 0} → Database S → Service S
service_of d = d.service

-- The number of tickets that it gave.
abbrev pub tickets_of : {S : Type 0} → Database S → ℕ
tickets_of d = d.tickets

-- The tickets below these numbers have an outcome, and had it given.
abbrev pub settled_of : {S : Type 0} → Database S → ℕ
settled_of d = d.settled

abbrev pub told_of : {S : Type 0} → Database S → ℕ
told_of d = d.told

-- How many outcomes of the last commit are still to be given.
abbrev pub left_of : {S : Type 0} → Database S → ℕ
left_of d = settled_of d - told_of d

-- The outcome of the last commit.
abbrev pub outcome_of : {S : Type 0} → Database S → Result (Unit {0}) SpaceFault
outcome_of d = d.outcome

-- True if a call was made since the last commit.
abbrev pub is_open_in : {S : Type 0} → Database S → Bool
is_open_in d = d.is_open

-- The retention in seconds, if there is one.
abbrev pub retention_of : {S : Type 0} → Database S → Option ℕ
retention_of d = d.retention

abbrev pub plan_of : {S : Type 0} → Database S → PurgePlan
plan_of d = d.plan

-- Holds if no call was made since the last commit, and all drafts have an outcome. Some outcomes
-- may still be given.
pub record IsQuiet {S : Type 0} (d : Database S) : Type 0 where
  pub closed : is_open_in d ≡ false
  pub settled : settled_of d ≡ tickets_of d
  pub told : told_of d ≤ settled_of d

-- Holds if the database of that service is quiet, and gave no ticket.
pub record IsNewDatabase {S : Type 0} (service : Service S) (retention : Option ℕ) (d : Database S)
    : Type 0 where
  pub service_is : service_of d ≡ service
  pub retention_is : retention_of d ≡ retention
  pub tickets : tickets_of d ≡ 0
  pub quiet : IsQuiet d

-- The outcome of a draft, given that of its commit.
abbrev pub outcome_for : Result (Unit {0}) SpaceFault → Outcome
outcome_for (Ok x) = outcomes.Stands
outcome_for (Err fault) = outcomes.Replied (reply_of (halts.Space fault))

-- True if a commit is due: a call was made since the last one, and all outcomes are given.
abbrev pub is_commit_due : {S : Type 0} → Database S → Bool
is_commit_due d = is_open_in d && leb (settled_of d) (told_of d)

-- Holds if the tickets, the batch and the retention are as before.
pub record SameBatch {S : Type 0} (d d' : Database S) : Type 0 where
  pub tickets : tickets_of d' ≡ tickets_of d
  pub settled : settled_of d' ≡ settled_of d
  pub told : told_of d' ≡ told_of d
  pub outcome : outcome_of d' ≡ outcome_of d
  pub opened : is_open_in d' ≡ is_open_in d
  pub retention : retention_of d' ≡ retention_of d

module _ {S : Type 0} (g : spaces.Ghosts S) (k : commits.Ghosts S) where
  -- Holds if a call was made once and got this reply, `waits` says whether changes were pending
  -- before or after it, and so many tickets were given afterwards.
  pub record MakesCall (moment : ℕ) (call : Call) (reply : Reply) (waits : Bool) (count : ℕ)
      (d d' : Database S) : Type 0 where
    pub is_reply : IsReplyTo g (service_of d) (service_of d') moment call reply
    pub waits_is : waits ≡ (k.is_pending (space_of (service_of d))
        || k.is_pending (space_of (service_of d')))
    pub same : d' ≡ record d { service = service_of d'; is_open = true; tickets = count }

  -- Holds if the request was answered, or drafted under the next ticket.
  abbrev pub ReceivesAs : (moment : ℕ) → Call → Received → Database S → Database S → Type 0
  ReceivesAs moment call (came.Answered reply) d d' =
      MakesCall moment call reply false (tickets_of d) d d'
  ReceivesAs moment call (came.Drafted ticket reply) d d' = (ticket ≡ tickets_of d)
      × MakesCall moment call reply true (suc (tickets_of d)) d d'
  ReceivesAs moment call (came.Waits ticket) d d' = ⊥
  ReceivesAs moment call (came.Refused reason) d d' = ⊥

  -- Holds if the pending changes were committed, all or none, and each draft has that outcome.
  pub record CommitsAs (d d' : Database S) : Type 0 where
    pub commits : IsCommitted g k (service_of d) (service_of d') (outcome_of d')
    pub same : d' ≡ record d {
      service = service_of d';
      outcome = outcome_of d';
      settled = tickets_of d;
      is_open = false;
    }

  -- Holds if a commit was made, if one was due, and nothing was done otherwise.
  abbrev pub SettlesAs : (due : Bool) → Database S → Database S → Type 0
  SettlesAs false d d' = d' ≡ d
  SettlesAs true d d' = CommitsAs d d'

  -- Holds if a chunk was purged between two batches, up to a time of the clock less the retention,
  -- while the clock was not held as wrong.
  pub record PurgesAt (moment : Option ℕ) (held : Bool) (d d' : Database S) : Type 0 where
    pub between : is_open_in d ≡ false
    pub right : held ≡ false
    pub time : ℕ
    pub time_is : moment ≡ Some time
    pub seconds : ℕ
    pub retains : retention_of d ≡ Some seconds
    pub purges : PurgesOnce g k (time - seconds) (service_of d) (service_of d')

  abbrev pub AdvancesAs : (moment : Option ℕ) → (held : Bool) → Database S → Database S → Type 0
  AdvancesAs moment held d d' = SameBatch d d'
      × ((service_of d' ≡ service_of d) ⊎ PurgesAt moment held d d')

  -- Holds if the outcome of the first draft without one was given, which is that of its commit.
  abbrev pub GivesAs : (ticket : ℕ) → Outcome → Database S → Database S → Type 0
  GivesAs ticket outcome d d' = (told_of d < settled_of d) × (ticket ≡ told_of d)
      × (outcome ≡ outcome_for (outcome_of d)) × (d' ≡ record d { told = suc (told_of d) })

  -- Holds if the event leads from one database to the other.
  abbrev pub StepsAs : Database S → BackendEvent → Database S → Type 0
  StepsAs d (Receives moment call received) d' = ReceivesAs moment call received d d'
  StepsAs d Settles d' = SettlesAs (is_commit_due d) d d'
  StepsAs d (Advances moment held now) d' = AdvancesAs moment held d d'
  StepsAs d (Gives ticket outcome) d' = GivesAs ticket outcome d d'
  StepsAs d GivesNone d' = (settled_of d ≤ told_of d) × (d' ≡ d)
  StepsAs d (Announces ticket) d' = (ticket ≡ None) × (d' ≡ d)
  StepsAs d (Answers moment ticket outcome) d' = ⊥
  StepsAs d (Forgets ticket) d' = d' ≡ d
  StepsAs d Stops d' = d' ≡ d
