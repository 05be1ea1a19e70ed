-- The events of a pool of instances, in the order of real time.
use Rattle.std.specs.Prelude.{◌==◌, ℕ, List, [], ◌∷◌, if◌then◌else◌}
use Rattle.std.specs.List.{flat_map}
use Rattle.policy_core.specs.declared.call.Call.{Call}
use Rattle.service_step.specs.declared.reply.Reply.{Reply}
use Rattle.service_calls.specs.Run.{TimedCall}
use Rattle.pool_core.specs.Log.{AsksEnd, GivesEntry, LogEntry, LogEvent, TakesBatch, TellsEnd}

-- What a reply is based on: the place of the call in the log, the airspace after the first entries
-- of the log, or no airspace at all. A call that is not in the log has its time here.
pub data Basis : Type 0 where
  InPlace : Basis
  AfterFirst : (count : ℕ) → (timed : TimedCall) → Basis
  AtOnce : (timed : TimedCall) → Basis

-- An event at one instance. A request, which has an id, was received whole and makes this call. A
-- batch of the calls of these requests was offered to the log, in these bytes, or a purge, which
-- has no requests. The log gave its next entry, was asked for its end, or answered. A request got
-- this reply, or failed: then its client learns nothing about its effect. Or it failed and was never
-- offered: then it has no effect.
pub data InstanceEvent : Type 0 where
  Receives : (id : ℕ) → (call : Call) → InstanceEvent
  Offers : (ids : List ℕ) → (bytes : List ℕ) → InstanceEvent
  Gets : (entry : LogEntry) → InstanceEvent
  AsksForEnd : (question : ℕ) → InstanceEvent
  LearnsEnd : (question : ℕ) → (count : ℕ) → InstanceEvent
  Answers : (id : ℕ) → (basis : Basis) → (reply : Reply) → InstanceEvent
  Fails : (id : ℕ) → InstanceEvent
  Drops : (id : ℕ) → InstanceEvent

-- An event of a pool: the number of the instance, and the event there.
pub record PoolEvent : Type 0 where
  pub instance : ℕ
  pub event : InstanceEvent

-- The events at one instance.
abbrev pub events_at : (instance : ℕ) → List PoolEvent → List InstanceEvent
events_at i events = flat_map (λ e. if i == e.instance then e.event ∷ [] else []) events

abbrev pub log_events_in : InstanceEvent → List LogEvent
log_events_in (Receives id call) = []
log_events_in (Offers ids bytes) = TakesBatch bytes ∷ []
log_events_in (Gets entry) = GivesEntry entry ∷ []
log_events_in (AsksForEnd question) = AsksEnd question ∷ []
log_events_in (LearnsEnd question count) = TellsEnd question count ∷ []
log_events_in (Answers id basis reply) = []
log_events_in (Fails id) = []
log_events_in (Drops id) = []

-- The history of the log at an instance with these events.
abbrev pub log_events : List InstanceEvent → List LogEvent
log_events events = flat_map log_events_in events

abbrev pub entry_in : InstanceEvent → List LogEntry
entry_in (Gets entry) = entry ∷ []
entry_in event = []

-- The entries that an instance was given.
abbrev pub entries_given : List InstanceEvent → List LogEntry
entries_given events = flat_map entry_in events

-- A batch that an instance offered, or a purge: the ids of its requests, and its bytes.
pub record Batch : Type 0 where
  pub writer : ℕ
  pub ids : List ℕ
  pub bytes : List ℕ

abbrev pub batch_in : (instance : ℕ) → InstanceEvent → List Batch
batch_in i (Offers ids bytes) = record { writer = i; ids = ids; bytes = bytes } ∷ []
batch_in i event = []

-- The batches that an instance offered.
abbrev pub batches_offered : (instance : ℕ) → List InstanceEvent → List Batch
batches_offered i events = flat_map (batch_in i) events
