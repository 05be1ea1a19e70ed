-- The state of an instance after events.
use Rattle.std.specs.Prelude.{◌≡◌, ◌==◌, ◌<◌, ◌≤◌, ℕ, false, List, [], ◌∷◌, ◌++◌, All, Contains, Option, Some, None, count_by, length}
use Rattle.std.specs.declared.vec.Vec.{Vec}
use Rattle.entity_core.specs.Airspace.{Airspace}
use Rattle.policy_core.specs.declared.call.Call.{Call}
use Rattle.space_core.specs.Space.{IsContent}
use Rattle.space_core.specs.declared.space.Space as spaces
use Rattle.service_calls.specs.Held.{is_shut}
use Rattle.pool_core.specs.Acts.{airspace_by}
use Rattle.pool_core.specs.Events.{AsksForEnd, Batch, InstanceEvent, Receives, batches_offered, entries_given, log_events}
use Rattle.pool_core.specs.Log.{Continues, LogEvent}
use Rattle.pool_core.specs.Serves.{IsOpen, ReachesEnd, ServesPool, acts_in, ids_ended, ids_offered, times}
use Rattle.pool_core.specs.declared.log.Log as logs
use Rattle.pool_entry.specs.Acts.{acts_of}
use Rattle.pool_instance.specs.Parts.{count_taken, heard_in, ids_of, is_ended, log_of, readings_in, retention_in, salt_in, sent_in, space_in, unsent_in}
use Rattle.pool_instance.specs.Purging.{AreAgreed, IsHeard}
use Rattle.pool_instance.specs.Request.{call_of}
use Rattle.pool_instance.specs.declared.instance.Instance.{Instance}
use Rattle.pool_instance.specs.declared.waiting.Held.{Held}
use Rattle.pool_instance.specs.declared.waiting.Reading.{Reading}
use Rattle.pool_instance.specs.declared.waiting.Stage.{Stage}
use Rattle.pool_instance.specs.declared.waiting.Stage.TheVariants.{Asked, Fresh, Until}

-- ---- requests that wait

-- Holds if a request was received, and has no reply, has not failed and was not offered.
pub record IsHeld (events : List InstanceEvent) (h : Held) : Type 0 where
  pub opens : IsOpen events h.id (call_of h.request)
  pub unoffered : times h.id (ids_offered events) ≡ 0

-- Holds if the instance asked this question after it received the request.
pub record AskedSince (events : List InstanceEvent) (id : ℕ) (call : Call) (question : ℕ)
    : Type 0 where
  pub earlier : List InstanceEvent
  pub waiting : List InstanceEvent
  pub later : List InstanceEvent
  pub asked : events ≡ earlier ++ Receives id call ∷ (waiting ++ AsksForEnd question ∷ later)

-- Holds if a request can wait for this, after these events.
abbrev pub IsAtStage : List InstanceEvent → ℕ → Call → Stage → Type 0
IsAtStage events id call Fresh = Unit {0}
IsAtStage events id call (Asked question) = AskedSince events id call question
IsAtStage events id call (Until count) = ReachesEnd events id call count

-- Holds if a request waits for the end of the log.
pub record IsWaiting (events : List InstanceEvent) (r : Reading) : Type 0 where
  pub held : IsHeld events r.held
  pub stage : IsAtStage events r.held.id (call_of r.held.request) r.stage

-- ---- the batch in flight

-- How many own entries the instance was given.
abbrev pub count_own : (me : ℕ) → List InstanceEvent → ℕ
count_own me events = count_by (λ entry. me == entry.writer) (entries_given events)

-- Holds if these are the requests of a batch. Those that failed have no number here.
abbrev pub AreOfBatch : List (Option ℕ) → (ids : List ℕ) → Type 0
AreOfBatch [] [] = Unit {0}
AreOfBatch [] (id ∷ ids) = ⊥
AreOfBatch (slot ∷ slots) [] = ⊥
AreOfBatch (None ∷ slots) (id ∷ ids) = AreOfBatch slots ids
AreOfBatch (Some k ∷ slots) (id ∷ ids) = (k ≡ id) × AreOfBatch slots ids

-- Holds if the entries of all own batches have come, or of all but the last, which is in flight.
abbrev pub IsInFlight : {A : Type 0} → (me : ℕ) → List InstanceEvent → Option (Vec (Option ℕ) A)
    → Type 0
IsInFlight me events None = length (batches_offered me events) ≡ count_own me events
IsInFlight me events (Some sent) = (earlier : List Batch) × ((batch : Batch)
    × (batches_offered me events ≡ earlier ++ batch ∷ [])
    × (length earlier ≡ count_own me events) × AreOfBatch sent.items batch.ids)

-- ---- the state

-- Holds if these requests wait after these events: each as it should, none forgotten, and none
-- twice. So many were received.
pub record AreRequests (events : List InstanceEvent) (rs : List Reading) (hs : List Held)
    (slots : List (Option ℕ)) (received : ℕ) : Type 0 where
  pub readings : All (IsWaiting events) rs
  pub unsent : All (IsHeld events) hs
  pub sent : (id : ℕ) → Contains slots (Some id) → (call : Call) × IsOpen events id call
  pub kept : (id : ℕ) (call : Call) → IsOpen events id call → Contains (ids_of rs hs slots) id
  pub apart : (id : ℕ) → times id (ids_of rs hs slots) ≤ 1
  -- No request was offered twice, and the next one gets a number that no event has.
  pub offered : (id : ℕ) → times id (ids_offered events) ≤ 1
  pub numbered : (id : ℕ) (call : Call) → Contains events (Receives id call) → id < received
  pub ended_below : (id : ℕ) → 1 ≤ times id (ids_ended events) → id < received
  pub offered_below : (id : ℕ) → 1 ≤ times id (ids_offered events) → id < received

-- The airspace after the entries that an instance was given.
abbrev pub airspace_of : (salt : List ℕ) (start : Airspace) → List InstanceEvent → Airspace
airspace_of salt start events =
    airspace_by salt start (acts_in acts_of (entries_given events))

-- Holds if the instance can go on: it took the entries that it was given, its space holds the
-- airspace after them, and its last batch is in flight or has come.
pub record IsUpToDate {L S : Type 0} (gl : logs.Ghosts L) (gs : spaces.Ghosts S) (start : Airspace)
    (events : List InstanceEvent) (x : Instance L S) : Type 0 where
  pub goes : is_shut x.service ≡ false
  pub taken : count_taken x ≡ length (entries_given events)
  pub held : gs.is_sound (space_in x)
      → IsContent gs.holds (space_in x) (airspace_of (salt_in x) start events)
  pub flight : IsInFlight (gl.writer (log_of x)) events x.in_flight

-- Holds if an instance can be in this state after these events. It started with the airspace
-- `start`, and its log had the history `past` then.
pub record IsAfter {L S : Type 0} (gl : logs.Ghosts L) (gs : spaces.Ghosts S)
    (past : Option (List LogEvent)) (start : Airspace) (events : List InstanceEvent)
    (x : Instance L S) : Type 0 where
  -- What the instance did with its log is in the events.
  pub logged : Continues past (gl.history (log_of x)) (log_events events)
  -- It serves its clients as one of a pool.
  pub serves : gs.is_sound (space_in x)
      → ServesPool acts_of (salt_in x) start (gl.writer (log_of x)) events
  pub up_to_date : is_ended x ≡ false → IsUpToDate gl gs start events x
  pub requests : AreRequests events (readings_in x) (unsent_in x) (sent_in x) x.received
  -- It purges only what has ended by the clock of another instance, too.
  pub heard : IsHeard (gl.writer (log_of x)) events (heard_in x)
  pub agreed : AreAgreed (retention_in x) (gl.writer (log_of x)) events
