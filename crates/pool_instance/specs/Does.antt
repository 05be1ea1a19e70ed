-- What the operations of an instance do: the events that each adds, and what it must answer.
use Rattle.std.specs.Prelude.{◌≡◌, ◌==◌, ◌<◌, ◌≤◌, ◌+◌, ◌⊎◌, ℕ, zero, suc, Bool, true, false, List, [], ◌∷◌, ◌++◌, All, Contains, IsSome, is_some, Option, Some, None, Result, Ok, Err, find, length, map, min, take}
use Rattle.std.specs.declared.vec.Vec.{Vec}
use Rattle.entity_core.specs.Airspace.{Airspace}
use Rattle.policy_core.specs.declared.call.Call.{Call}
use Rattle.policy_core.specs.Policy.{breaks, early_rules}
use Rattle.space_core.specs.declared.space.Space as spaces
use Rattle.service_calls.specs.Run.{IsAllowed, IsReplyTo}
use Rattle.service_step.specs.declared.reply.Reply.{Reply}
use Rattle.service_step.specs.declared.reply.Reply.TheVariants as replies
use Rattle.pool_core.specs.Acts.{Makes, Purges}
use Rattle.pool_core.specs.Events.{AfterFirst, Answers, AsksForEnd, AtOnce, Drops, Fails, Gets, InPlace, InstanceEvent, LearnsEnd, Offers, Receives}
use Rattle.pool_core.specs.Log.{LogEntry, LogEvent}
use Rattle.pool_core.specs.declared.log.Log as logs
use Rattle.pool_entry.specs.Acts.{acts_of}
use Rattle.pool_entry.specs.Spelling.{IsBatch}
use Rattle.pool_entry.specs.declared.pool_call.PoolCall.{PoolCall}
use Rattle.pool_instance.specs.Evaluate.{IsOffered}
use Rattle.pool_instance.specs.Lists.{AreWritten, asked}
use Rattle.pool_instance.specs.Parts.{count_received, count_taken, heard_in, ids_in, ids_sent, ids_unsent, is_due_as, is_ended, is_unasked, log_of, purges_in, readings_in, retention_in, salt_in, sent_in, space_in, unsent_in}
use Rattle.pool_instance.specs.Request.{call_of}
use Rattle.pool_instance.specs.State.{IsAfter}
use Rattle.pool_instance.specs.declared.fault.InstanceFault.{InstanceFault}
use Rattle.pool_instance.specs.declared.fault.InstanceFault.TheVariants.{Ended, NoMemory}
use Rattle.pool_instance.specs.declared.instance.Instance.{Instance}
use Rattle.pool_instance.specs.declared.outcome.Outcome.{Outcome}
use Rattle.pool_instance.specs.declared.outcome.Outcome.TheVariants.{Failed, Replied}
use Rattle.pool_instance.specs.declared.outcome.Unanswered.{Unanswered}
use Rattle.pool_instance.specs.declared.outcome.Unanswered.TheVariants.{Unknown, Unsent}
use Rattle.pool_instance.specs.declared.waiting.Held.{Held}
use Rattle.pool_instance.specs.declared.waiting.Reading.{Reading}

-- Holds if an instance may offer a purge up to this time: it ends the retention before the earlier
-- of its own time and the time that it heard last, and a minute or more after the last purge.
pub record IsDuePurge {L S : Type 0} (now : ℕ) (x : Instance L S) (until : ℕ) : Type 0 where
  pub seconds : ℕ
  pub retained : retention_in x ≡ Some seconds
  pub time : ℕ
  pub heard : heard_in x ≡ Some time
  pub end : until + seconds ≡ min now time
  pub step : (purges_in x).until + 60 ≤ until

-- The number of the request that has this outcome.
abbrev pub number_in : Outcome → ℕ
number_in (Replied id reply) = id
number_in (Failed id) = id

-- The answer to a request in its place in the log.
abbrev pub in_place : ℕ × Reply → InstanceEvent
in_place told = Answers told.0 InPlace told.1

-- How many requests are received in an event, and in some events.
abbrev pub receipts_in : InstanceEvent → ℕ
receipts_in (Receives id call) = 1
receipts_in (Offers ids bytes) = 0
receipts_in (Gets entry) = 0
receipts_in (AsksForEnd question) = 0
receipts_in (LearnsEnd question count) = 0
receipts_in (Answers id basis reply) = 0
receipts_in (Fails id) = 0
receipts_in (Drops id) = 0

abbrev pub count_receipts : List InstanceEvent → ℕ
count_receipts [] = 0
count_receipts (event ∷ events) = receipts_in event + count_receipts events

module _ {L S : Type 0} (gl : logs.Ghosts L) (gs : spaces.Ghosts S) where
  -- Holds if an operation did exactly these events, whatever happened before.
  pub record Did (old : Instance L S) (more : List InstanceEvent) (new : Instance L S) : Type 0 where
    pub after : (past : Option (List LogEvent)) (start : Airspace) (events : List InstanceEvent)
        → IsAfter gl gs past start events old → IsAfter gl gs past start (events ++ more) new
    pub salt : salt_in new ≡ salt_in old
    pub writer : gl.writer (log_of new) ≡ gl.writer (log_of old)
    pub retention : retention_in new ≡ retention_in old
    pub sound : gs.is_sound (space_in new) → gs.is_sound (space_in old)
    pub stays_ended : is_ended old ≡ true → is_ended new ≡ true
    pub received : count_received new ≡ count_received old + count_receipts more

  -- Holds if an operation did nothing, and the same requests wait.
  pub record DidNothing (old new : Instance L S) : Type 0 where
    pub did : Did old [] new
    pub same : ids_in new ≡ ids_in old
    pub taken : count_taken new ≡ count_taken old

  -- Holds if an operation failed so: it did nothing, or the instance has ended. The log may have
  -- given an entry then.
  abbrev pub FailedSo : Instance L S → Instance L S → InstanceFault → Type 0
  FailedSo old new NoMemory = DidNothing old new × (is_ended new ≡ is_ended old)
  FailedSo old new Ended = (is_ended new ≡ true) × (ids_in new ≡ ids_in old)
      × (Did old [] new ⊎ ((entry : LogEntry) × Did old (Gets entry ∷ []) new))

  -- ---- receive

  -- Holds if an operation failed so, and the log gave nothing: it did nothing, or the instance has
  -- ended.
  abbrev pub StoppedSo : Instance L S → Instance L S → InstanceFault → Type 0
  StoppedSo old new NoMemory = DidNothing old new × (is_ended new ≡ is_ended old)
  StoppedSo old new Ended = (is_ended new ≡ true) × (ids_in new ≡ ids_in old) × Did old [] new

  -- Holds if the instance received a call that breaks a stateless rule, and answered it at once. If
  -- the call breaks none, it did nothing.
  abbrev pub DeniedSo : (now : ℕ) (call : Call) → Instance L S → Instance L S
      → Result (Option Reply) InstanceFault → Type 0
  DeniedSo now call old new (Ok None) = (new ≡ old) × (is_ended old ≡ false)
      × ((a : Airspace) (time : ℕ) → find (breaks a time call) early_rules ≡ None)
  DeniedSo now call old new (Ok (Some reply)) =
      ((a : Airspace) → IsSome (find (breaks a now call) early_rules))
      × Did old (Receives (count_received old) call
      ∷ Answers (count_received old) (AtOnce (now, call)) reply ∷ []) new
  DeniedSo now call old new (Err fault) = StoppedSo old new fault

  -- Holds if the instance received a request, which waits under the next number. It waits for the
  -- next batch only if it is to be offered.
  abbrev pub QueuedSo : (now : ℕ) → (call : Call) → Instance L S → Instance L S
      → Result ℕ InstanceFault → Type 0
  QueuedSo now call old new (Ok id) =
      (id ≡ count_received old) × Did old (Receives id call ∷ []) new
      × ((unsent_in new ≡ unsent_in old) ⊎ IsOffered gs old.service new.service now call)
  QueuedSo now call old new (Err fault) = StoppedSo old new fault

  -- ---- ask and learn

  -- Holds if the instance asked for the end of the log if some request had come since the last
  -- question that one can be for. None of these is left.
  abbrev pub AskedSo : Instance L S → Instance L S → Result Bool InstanceFault → Type 0
  AskedSo old new (Ok true) = ((question : ℕ) × Did old (AsksForEnd question ∷ []) new
      × (readings_in new ≡ map (asked (is_some old.in_flight) question) (readings_in old)))
      × All (λ r. is_unasked (is_some old.in_flight) r ≡ false) (readings_in new)
  AskedSo old new (Ok false) = DidNothing old new
      × All (λ r. is_unasked (is_some old.in_flight) r ≡ false) (readings_in new)
  AskedSo old new (Err fault) = FailedSo old new fault

  -- Holds if the instance learned an end, if the log told one.
  abbrev pub LearnedSo : Instance L S → Instance L S → Bool → Type 0
  LearnedSo old new true = (question : ℕ) × ((count : ℕ) × Did old (LearnsEnd question count ∷ []) new)
  LearnedSo old new false = DidNothing old new

  -- ---- offer

  -- Holds if the first so many requests are offered in these bytes, at a time. They are as many as
  -- have room in an entry.
  pub record OffersFirst (now : ℕ) (hs : List Held) (count : ℕ) (bytes : List ℕ) : Type 0 where
    pub calls : acts_of bytes
        ≡ map (λ (h : Held). Makes (now, call_of h.request)) (take count hs)
    pub some : 0 < count
    pub most : (written : List PoolCall) → AreWritten now (take (count + 1) hs) written
        → IsBatch written → count ≡ length hs

  -- Holds if the instance offered as many changes as have room. It offers none only if none waits or
  -- a batch is in flight.
  abbrev pub OfferedSo : (now : ℕ) → Instance L S → Instance L S → Result ℕ InstanceFault → Type 0
  OfferedSo now old new (Ok zero) = DidNothing old new
      × ((unsent_in old ≡ []) ⊎ IsSome old.in_flight)
  OfferedSo now old new (Ok (suc n)) = (bytes : List ℕ)
      × Did old (Offers (map (λ (h : Held). h.id) (take (suc n) (unsent_in old))) bytes ∷ []) new
      × OffersFirst now (unsent_in old) (suc n) bytes
  OfferedSo now old new (Err fault) = FailedSo old new fault

  -- Holds if these are the bytes of a purge that keeps the retention by a clock.
  pub record IsPurgeAt (now : ℕ) (retention : Option ℕ) (bytes : List ℕ) : Type 0 where
    pub until : ℕ
    pub acts : acts_of bytes ≡ Purges until ∷ []
    pub seconds : ℕ
    pub retained : retention ≡ Some seconds
    pub past : until + seconds ≤ now

  -- Holds if the instance offered a purge, or none. It offers none only if none is due or a batch is
  -- in flight.
  abbrev pub PurgeOfferedSo : (now : ℕ) → Instance L S → Instance L S → Result Bool InstanceFault
      → Type 0
  PurgeOfferedSo now old new (Ok false) = DidNothing old new
      × (IsSome old.in_flight ⊎ ((until : ℕ) → IsDuePurge now old until → ⊥))
  PurgeOfferedSo now old new (Ok true) = (bytes : List ℕ) × Did old (Offers [] bytes ∷ []) new
      × IsPurgeAt now (retention_in old) bytes
  PurgeOfferedSo now old new (Err fault) = FailedSo old new fault

  -- ---- take

  -- Holds if these requests got a reply: those of the batch in flight, if its entry was taken.
  abbrev pub AreTold : Instance L S → Instance L S → (is_own : Bool) → List ℕ → Type 0
  AreTold old new true ids = (ids ≡ ids_sent old) × (sent_in new ≡ [])
  AreTold old new false ids = (ids ≡ []) × (sent_in new ≡ sent_in old)

  -- Holds if the instance took the next entry, if the log gave one, and replied to the requests of
  -- its batch. All of them have a reply then but those that failed before.
  abbrev pub TookSo : {A : Type 0} → Instance L S → Instance L S
      → Result (Option (Vec (ℕ × Reply) A)) InstanceFault → Type 0
  TookSo old new (Ok None) = DidNothing old new
  TookSo old new (Ok (Some told)) = (entry : LogEntry)
      × Did old (Gets entry ∷ map in_place told.items) new
      × (count_taken new ≡ count_taken old + 1)
      × (is_ended new ≡ false)
      × AreTold old new (entry.writer == gl.writer (log_of old)) (map (λ (t : ℕ × Reply). t.0) told.items)
  TookSo old new (Err fault) = FailedSo old new fault

  -- ---- answer

  -- Holds if a change that was denied when it came breaks no rule now, and waits for the next batch.
  pub record IsReleased (now id : ℕ) (old new : Instance L S) : Type 0 where
    pub did : Did old [] new
    pub one : Held
    pub number : one.id ≡ id
    pub allowed : IsAllowed gs old.service new.service now (call_of one.request)
    pub unsent : unsent_in new ≡ unsent_in old ++ one ∷ []

  -- Holds if a request had this outcome at a time, and changed nothing. It fails only if the service reports a fault.
  abbrev pub HasOutcome : (now : ℕ) → Instance L S → Instance L S → Outcome → Type 0
  HasOutcome now old new (Replied id reply) = (call : Call)
      × Did old (Answers id (AfterFirst (count_taken old) (now, call)) reply ∷ []) new
  HasOutcome now old new (Failed id) = Did old (Drops id ∷ []) new
      × ((r : Reading) × Contains (readings_in old) r × (r.held.id ≡ id)
      × IsReplyTo gs old.service new.service now (call_of r.held.request) replies.Fault)

  -- Holds if the instance answered the request with this number, if its end is reached, or released
  -- it. If the service stopped, the instance has ended, and the request waits still.
  abbrev pub AnsweredAs : (now id : ℕ) → Instance L S → Instance L S
      → Result (Option Outcome) InstanceFault → Type 0
  AnsweredAs now id old new (Ok None) =
      ((new ≡ old) × All (λ r. is_due_as id (count_taken old) r ≡ false) (readings_in old))
      ⊎ IsReleased now id old new
  AnsweredAs now id old new (Ok (Some outcome)) = (number_in outcome ≡ id)
      × HasOutcome now old new outcome
  AnsweredAs now id old new (Err fault) = StoppedSo old new fault
      × (is_ended old ≡ false → Contains (ids_in new) id)

  -- ---- fail

  -- Holds if the instance failed a request that had no reply.
  abbrev pub GaveUpSo : (id : ℕ) → Instance L S → Instance L S → Option Unanswered → Type 0
  GaveUpSo id old new None = DidNothing old new × (Contains (ids_in old) id → ⊥)
  GaveUpSo id old new (Some Unsent) = Did old (Drops id ∷ []) new × Contains (ids_unsent old) id
  GaveUpSo id old new (Some Unknown) = Did old (Fails id ∷ []) new × Contains (ids_sent old) id
