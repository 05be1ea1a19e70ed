-- What one instance of a pool does.
use Rattle.std.specs.Prelude.{◌≡◌, ◌==◌, ◌+◌, ◌≤◌, ℕ, List, [], ◌∷◌, ◌++◌, Contains, count_by, length, Some, slice_get, take}
use Rattle.std.specs.List.{flat_map}
use Rattle.entity_core.specs.Airspace.{Airspace}
use Rattle.policy_core.specs.declared.call.Call.{Call}
use Rattle.service_step.specs.declared.reply.Reply.{Reply}
use Rattle.service_step.specs.Step.{step}
use Rattle.service_calls.specs.Run.{TimedCall}
use Rattle.pool_core.specs.Acts.{Act, Makes, Purges, airspace_by, replies_by}
use Rattle.pool_core.specs.Events.{AfterFirst, Answers, AsksForEnd, AtOnce, Basis, Batch, Drops, Fails, Gets, InPlace, InstanceEvent, LearnsEnd, Offers, Receives, batches_offered, entries_given}
use Rattle.pool_core.specs.Log.{LogEntry}

-- ---- requests

abbrev pub offered_in : InstanceEvent → List ℕ
offered_in (Offers ids bytes) = ids
offered_in event = []

-- The ids of the requests whose calls were offered.
abbrev pub ids_offered : List InstanceEvent → List ℕ
ids_offered events = flat_map offered_in events

abbrev pub ended_in : InstanceEvent → List ℕ
ended_in (Answers id basis reply) = id ∷ []
ended_in (Fails id) = id ∷ []
ended_in (Drops id) = id ∷ []
ended_in event = []

-- The ids of the requests that got a reply or failed.
abbrev pub ids_ended : List InstanceEvent → List ℕ
ids_ended events = flat_map ended_in events

-- How many times a number is in a list.
abbrev pub times : ℕ → List ℕ → ℕ
times n ns = count_by (λ k. n == k) ns

-- Holds if the request was received, with this call, and has not ended.
pub record IsOpen (before : List InstanceEvent) (id : ℕ) (call : Call) : Type 0 where
  pub received : Contains before (Receives id call)
  pub unended : times id (ids_ended before) ≡ 0

-- Holds if these are the ids of open requests with the calls of these acts, one for each. Purges,
-- which have no ids, come after the calls.
abbrev pub AreOpen : List InstanceEvent → List ℕ → List Act → Type 0
AreOpen before [] [] = Unit {0}
AreOpen before [] (Makes timed ∷ acts) = ⊥
AreOpen before [] (Purges until ∷ acts) = AreOpen before [] acts
AreOpen before (id ∷ ids) [] = ⊥
AreOpen before (id ∷ ids) (Makes timed ∷ acts) =
    IsOpen before id timed.1 × AreOpen before ids acts
AreOpen before (id ∷ ids) (Purges until ∷ acts) = ⊥

-- Holds if the instance asked for the end of the log after it received the request, and learned an
-- end that these entries reach.
pub record ReachesEnd (before : List InstanceEvent) (id : ℕ) (call : Call) (count : ℕ)
    : Type 0 where
  pub earlier : List InstanceEvent
  pub waiting : List InstanceEvent
  pub asking : List InstanceEvent
  pub later : List InstanceEvent
  pub question : ℕ
  pub end : ℕ
  pub events : before ≡ earlier ++ Receives id call
      ∷ (waiting ++ AsksForEnd question ∷ (asking ++ LearnsEnd question end ∷ later))
  pub reached : end ≤ count

-- ---- events

-- The acts of entries. Bytes that spell neither a batch nor a purge have none.
abbrev pub acts_in : (acts_of : List ℕ → List Act) → List LogEntry → List Act
acts_in acts_of entries = flat_map (λ entry. acts_of entry.bytes) entries

module _ (acts_of : List ℕ → List Act) (salt : List ℕ) (start : Airspace) where
  -- The airspace after the first entries.
  abbrev pub airspace_at : List LogEntry → ℕ → Airspace
  airspace_at entries count = airspace_by salt start (acts_in acts_of (take count entries))

  -- Holds if the bytes have the calls of these open requests, and none was offered before.
  pub record MayOffer (before : List InstanceEvent) (ids bytes : List ℕ) : Type 0 where
    pub calls : AreOpen before ids (acts_of bytes)
    pub once : (id : ℕ) → times id (ids_offered before ++ ids) ≤ 1

  module _ (me : ℕ) where
    -- Holds if the call of a request is in an own entry that the instance was given, and the reply
    -- is that of the policy at its place. The n-th own entry is the n-th batch that it offered.
    pub record IsReplyInPlace (before : List InstanceEvent) (id : ℕ) (reply : Reply) : Type 0 where
      pub index : ℕ
      pub entry : LogEntry
      pub given : slice_get (entries_given before) index ≡ Some entry
      pub own : entry.writer ≡ me
      pub batch : Batch
      pub offered : slice_get (batches_offered me before)
          (count_by (λ entry. me == entry.writer) (take index (entries_given before))) ≡ Some batch
      pub position : ℕ
      pub asked : slice_get batch.ids position ≡ Some id
      pub is_policy : slice_get (replies_by salt start (acts_in acts_of (entries_given before)))
          (length (acts_in acts_of (take index (entries_given before))) + position)
          ≡ Some (Some reply)

    -- Holds if the reply is that of the policy after the first entries, which reach an end that was
    -- asked for after the request, and the call changes nothing there.
    pub record IsReplyAfter (before : List InstanceEvent) (id count : ℕ) (timed : TimedCall)
        (reply : Reply) : Type 0 where
      pub unoffered : times id (ids_offered before) ≡ 0
      pub given : count ≤ length (entries_given before)
      pub end : ReachesEnd before id timed.1 count
      pub is_policy : let a = airspace_at (entries_given before) count in
          step salt a timed.0 timed.1 ≡ (a, reply)

    -- Holds if the reply is that of the policy in any airspace, and the call changes nothing.
    pub record IsReplyAnywhere (before : List InstanceEvent) (id : ℕ) (timed : TimedCall)
        (reply : Reply) : Type 0 where
      pub unoffered : times id (ids_offered before) ≡ 0
      pub is_policy : (a : Airspace) → step salt a timed.0 timed.1 ≡ (a, reply)

    abbrev pub IsReplyBy : List InstanceEvent → ℕ → Basis → Reply → Type 0
    IsReplyBy before id InPlace reply = ((call : Call) × IsOpen before id call)
        × IsReplyInPlace before id reply
    IsReplyBy before id (AfterFirst count timed) reply = IsOpen before id timed.1
        × IsReplyAfter before id count timed reply
    IsReplyBy before id (AtOnce timed) reply = IsOpen before id timed.1
        × IsReplyAnywhere before id timed reply

    -- Holds if the instance may do this after the events before. It decides on offers, replies and
    -- failures. Each request has a new id, is offered once at most, and ends once.
    abbrev pub MayFollow : List InstanceEvent → InstanceEvent → Type 0
    MayFollow before (Receives id call) = (other : Call) → Contains before (Receives id other) → ⊥
    MayFollow before (Offers ids bytes) = MayOffer before ids bytes
    MayFollow before (Gets entry) = Unit {0}
    MayFollow before (AsksForEnd question) = Unit {0}
    MayFollow before (LearnsEnd question count) = Unit {0}
    MayFollow before (Answers id basis reply) = IsReplyBy before id basis reply
    MayFollow before (Fails id) = (call : Call) × IsOpen before id call
    MayFollow before (Drops id) = ((call : Call) × IsOpen before id call)
        × (times id (ids_offered before) ≡ 0)

    -- Holds if each of these events may follow those before it.
    abbrev pub AllMayFollow : List InstanceEvent → List InstanceEvent → Type 0
    AllMayFollow before [] = Unit {0}
    AllMayFollow before (e ∷ es) = MayFollow before e × AllMayFollow (before ++ e ∷ []) es

    -- Holds if an instance serves its clients as one of a pool.
    abbrev pub ServesPool : List InstanceEvent → Type 0
    ServesPool events = AllMayFollow [] events
