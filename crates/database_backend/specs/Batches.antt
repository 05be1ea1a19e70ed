-- The segments of batches that the events of a database form.
use Rattle.std.specs.Prelude.{◌≡◌, ◌⊎◌, ◌-◌, ℕ, Bool, true, false, List, [], ◌∷◌, ◌++◌, map, Option, Some, Result}
use Rattle.std.specs.List.{flat_map}
use Rattle.policy_core.specs.declared.call.Call.{Call}
use Rattle.service_calls.specs.declared.service.Service.{Service}
use Rattle.service_calls.specs.Batches.{Batch, CallRecord, CalledInOrder, MadeBatches, uncommitted}
use Rattle.service_calls.specs.Purged.{MadeSegments, Segment}
use Rattle.service_step.specs.declared.reply.Reply.{Reply}
use Rattle.space_core.specs.declared.group_commit.GroupCommit as commits
use Rattle.space_core.specs.declared.space.Space as spaces
use Rattle.space_core.specs.declared.space.SpaceFault.{SpaceFault}
use Rattle.server_backend.specs.BackendEvent.{Advances, Announces, Answers, BackendEvent, Forgets, Gives, GivesNone, Receives, Settles, Stops}
use Rattle.server_backend.specs.Does.{DoesAll}
use Rattle.server_backend.specs.declared.outcome.Received.{Received}
use Rattle.server_backend.specs.declared.outcome.Received.TheVariants as came
use Rattle.database_backend.specs.Database.{IsQuiet, StepsAs, is_open_in, retention_of, service_of}
use Rattle.database_backend.specs.declared.database.Database.{Database}

-- ---- acts

-- A call with its reply, a commit with its outcome, or a purge chunk up to a time.
pub data Act : Type 0 where
  Makes : (made : CallRecord) → Act
  Commits : (outcome : Result (Unit {0}) SpaceFault) → Act
  Sweeps : (until : ℕ) → Act

-- The record of a call that was made for a request. `waits` says whether its reply is a draft.
abbrev pub record_of : (moment : ℕ) → Call → Reply → (waits : Bool) → CallRecord
record_of moment call reply waits =
    record { timed = (moment, call); reply = reply; waits = waits }

-- Holds if these are the acts of a receipt: one call, whose reply is deferred if it is a draft.
abbrev pub IsCallAct : (moment : ℕ) → Call → Received → List Act → Type 0
IsCallAct moment call (came.Answered reply) acts =
    acts ≡ Makes (record_of moment call reply false) ∷ []
IsCallAct moment call (came.Drafted ticket reply) acts =
    acts ≡ Makes (record_of moment call reply true) ∷ []
IsCallAct moment call (came.Waits ticket) acts = ⊥
IsCallAct moment call (came.Refused reason) acts = ⊥

-- Holds if these are the acts of a settlement: a commit, or none.
abbrev pub IsCommitAct : List Act → Type 0
IsCommitAct acts = (acts ≡ [])
    ⊎ ((outcome : Result (Unit {0}) SpaceFault) × (acts ≡ Commits outcome ∷ []))

-- Holds if these are the acts of an advance: none, or a chunk up to the time of the clock less the
-- retention, if the clock is not held as wrong.
abbrev pub IsPurgeAct : (retention moment : Option ℕ) → (held : Bool) → List Act → Type 0
IsPurgeAct retention moment held acts = (acts ≡ [])
    ⊎ ((time : ℕ) × (seconds : ℕ) × (moment ≡ Some time) × (retention ≡ Some seconds)
    × (held ≡ false) × (acts ≡ Sweeps (time - seconds) ∷ []))

-- Holds if these are the acts of an event.
abbrev pub IsActOf : (retention : Option ℕ) → BackendEvent → List Act → Type 0
IsActOf retention (Receives moment call received) acts = IsCallAct moment call received acts
IsActOf retention Settles acts = IsCommitAct acts
IsActOf retention (Advances moment held now) acts = IsPurgeAct retention moment held acts
IsActOf retention (Gives ticket outcome) acts = acts ≡ []
IsActOf retention GivesNone acts = acts ≡ []
IsActOf retention (Announces ticket) acts = acts ≡ []
IsActOf retention (Answers moment ticket outcome) acts = ⊥
IsActOf retention (Forgets ticket) acts = acts ≡ []
IsActOf retention Stops acts = acts ≡ []

-- Holds if these are the acts of the events, in order.
abbrev pub AreActsOf : (retention : Option ℕ) → List BackendEvent → List Act → Type 0
AreActsOf retention [] acts = acts ≡ []
AreActsOf retention (event ∷ events) acts = (these : List Act) × (more : List Act)
    × (acts ≡ these ++ more) × IsActOf retention event these × AreActsOf retention events more

-- ---- segments

-- The acts of calls, of a batch, and of a segment.
abbrev pub acts_of_calls : List CallRecord → List Act
acts_of_calls calls = map (λ made. Makes made) calls

abbrev pub acts_of_batch : Batch → List Act
acts_of_batch batch = acts_of_calls batch.calls ++ Commits batch.settled ∷ []

abbrev pub acts_of_segment : Segment → List Act
acts_of_segment segment = flat_map acts_of_batch segment.batches ++ Sweeps segment.until ∷ []

-- The segments, the batches after them, and the calls after the last commit. They are the acts of
-- the events, cut at commits and purges, and lead from one service to the other.
pub record Cut {S : Type 0} (g : spaces.Ghosts S) (k : commits.Ghosts S) (retention : Option ℕ)
    (events : List BackendEvent) (old new : Service S) : Type 0 where
  pub segments : List Segment
  pub batches : List Batch
  pub calls : List CallRecord
  pub acts : AreActsOf retention events (flat_map acts_of_segment segments
      ++ (flat_map acts_of_batch batches ++ acts_of_calls calls))
  pub last : Service S
  pub committed : Service S
  pub segments_made : MadeSegments g k old segments last
  pub made : MadeBatches g k last batches committed
  pub calls_made : CalledInOrder g k committed calls new

-- The cut of the events that lead from one database to another.
abbrev pub CutBetween : {S : Type 0} → spaces.Ghosts S → commits.Ghosts S → List BackendEvent
    → Database S → Database S → Type 0
CutBetween g k events old new = Cut g k (retention_of old) events (service_of old) (service_of new)

-- The batches after the last purge. The calls after the last commit form one that is not committed,
-- as after a crash: each draft of them counts as a failure.
abbrev pub batches_of : {S : Type 0} → {g : spaces.Ghosts S} → {k : commits.Ghosts S}
    → {retention : Option ℕ} → {events : List BackendEvent} → {old new : Service S}
    → Cut g k retention events old new → List Batch
batches_of cut = cut.batches ++ uncommitted cut.calls ∷ []

-- ---- laws

-- States that the events of a database form segments and batches. If no call was made since the
-- last commit, all are in batches.
abbrev pub EventsFormSegments : {S : Type 0} → spaces.Ghosts S → commits.Ghosts S → Type 0
EventsFormSegments {S} g k = (events : List BackendEvent) (old new : Database S)
    → DoesAll (StepsAs g k) events old new → IsQuiet old
    → (cut : CutBetween g k events old new) × (is_open_in new ≡ false → cut.calls ≡ [])
