-- Batches of calls. Each batch ends when its pending changes are committed, or not.
use Rattle.std.specs.Prelude.{◌≡◌, ◌||◌, ◌⊎◌, ℕ, Bool, true, false, List, [], ◌∷◌, ◌++◌, map, All, Result, Ok, Err, if◌then◌else◌}
use Rattle.std.specs.List.{AllByRecursion, flat_map}
use Rattle.entity_core.specs.Airspace.{Airspace, empty_at}
use Rattle.space_core.specs.declared.space.Space as spaces
use Rattle.space_core.specs.declared.group_commit.GroupCommit as settles
use Rattle.space_core.specs.declared.space.SpaceFault.{SpaceFault}
use Rattle.space_core.specs.declared.space.SpaceFault.TheVariants.{Unchanged}
use Rattle.space_core.specs.Calls.{CallCommits, CallReportsFault}
use Rattle.space_core.specs.Space.{IsContent, is_broken_after}
use Rattle.service_step.specs.declared.call_fault.CallFault.TheVariants.{Space}
use Rattle.service_step.specs.declared.reply.Reply.{Reply}
use Rattle.service_step.specs.declared.reply.Reply.TheVariants.{Stopped}
use Rattle.service_calls.specs.declared.service.Service.{Service}
use Rattle.service_calls.specs.Aware.{Aware}
use Rattle.service_calls.specs.Count.{Counts}
use Rattle.service_calls.specs.Held.{is_shut, salt_of, space_of}
use Rattle.service_calls.specs.Run.{AskedInOrder, IsReplyTo, MayHaveStepped, Runs, TimedCall, airspace_after, answered_calls, has_stopped, replies_of, delivered_replies}
use Rattle.service_calls.specs.Service.{reply_of}
use Rattle.service_calls.specs.Stale.{AllNumbered}

-- A call, its reply, and whether the reply is deferred until the batch ends.
pub record CallRecord : Type 0 where
  pub timed : TimedCall
  pub reply : Reply
  pub waits : Bool

-- Calls in sequence, and the result of the commit at the end.
pub record Batch : Type 0 where
  pub calls : List CallRecord
  pub settled : Result (Unit {0}) SpaceFault

-- ---- delivered replies

-- The reply sent to the caller, given the outcome of its batch. A deferred reply becomes a failure
-- if the commit failed.
abbrev pub delivered_reply : Result (Unit {0}) SpaceFault → CallRecord → Reply
delivered_reply (Ok x) made = made.reply
delivered_reply (Err fault) made = if made.waits then reply_of (Space fault) else made.reply

abbrev pub timed_in : Batch → List TimedCall
timed_in batch = map (λ made. made.timed) batch.calls

-- The replies of a batch as they were made, and as they are delivered.
abbrev pub replies_made : Batch → List Reply
replies_made batch = map (λ made. made.reply) batch.calls

abbrev pub replies_delivered : Batch → List Reply
replies_delivered batch = map (delivered_reply batch.settled) batch.calls

-- The calls of all batches, and the replies delivered to them.
abbrev pub all_timed : List Batch → List TimedCall
all_timed batches = flat_map timed_in batches

abbrev pub all_delivered : List Batch → List Reply
all_delivered batches = flat_map replies_delivered batches

-- ---- calls and commits

module _ {S : Type 0} (g : spaces.Ghosts S) (k : settles.Ghosts S) where
  -- Holds if the service received these calls in order, each once. A reply is deferred if changes
  -- are pending before or after the call: the call made one, or may have seen one.
  abbrev pub CalledInOrder : Service S → List CallRecord → Service S → Type 0
  CalledInOrder old [] new = new ≡ old
  CalledInOrder old (m ∷ ms) new =
      (mid : Service S) × IsReplyTo g old mid m.timed.0 m.timed.1 m.reply
      × (m.waits ≡ (k.is_pending (space_of old) || k.is_pending (space_of mid))) × CalledInOrder mid ms new

  -- Holds if all pending changes were committed, or none of them, and none is pending any more. If
  -- the space broke, the service is shut.
  pub record IsCommitted (old new : Service S) (result : Result (Unit {0}) SpaceFault) : Type 0 where
    pub salt : salt_of new ≡ salt_of old
    pub shuts : is_shut new ≡ is_broken_after (is_shut old) result
    pub calm : k.is_pending (space_of new) ≡ false
    pub tells : CallReportsFault g (space_of old) (space_of new) result
    pub settles : CallCommits g (space_of old) (space_of new) result k.persists

  -- Holds if the service ran these batches in order.
  abbrev pub MadeBatches : Service S → List Batch → Service S → Type 0
  MadeBatches old [] new = new ≡ old
  MadeBatches old (batch ∷ batches) new =
      (mid : Service S) × (end : Service S) × CalledInOrder old batch.calls mid
      × IsCommitted mid end batch.settled × MadeBatches end batches new

  -- Holds if a service that was not shut ran these batches. Its space had a single airspace and
  -- nothing pending before, and is sound afterwards.
  pub record AskedInBatches (old : Service S) (batches : List Batch) (new : Service S) (a : Airspace)
      : Type 0 where
    pub goes : is_shut old ≡ false
    pub calm : k.is_pending (space_of old) ≡ false
    pub content : IsContent g.holds (space_of old) a
    pub made : MadeBatches old batches new
    pub sound : g.is_sound (space_of new)

-- ---- durable airspaces

-- A batch of these calls without a commit, as after a crash before the commit.
abbrev pub uncommitted : List CallRecord → Batch
uncommitted calls = record { calls = calls; settled = Err Unchanged }

-- The airspace after the answered calls of a batch.
abbrev pub airspace_of : List ℕ → Airspace → Batch → Airspace
airspace_of salt a batch = airspace_after salt a (answered_calls (timed_in batch) (replies_delivered batch))

-- Holds if the airspace is the one that the batch leaves if its pending changes are lost.
abbrev pub LeftWithoutPending : List ℕ → Airspace → Batch → Airspace → Type 0
LeftWithoutPending salt a batch after = after ≡ airspace_of salt a (uncommitted batch.calls)

-- Holds if the airspace is one that the batch can leave if its pending changes are durable. A call
-- with the reply `Stopped` had its effect, or had none.
abbrev pub LeftWithPending : List ℕ → Airspace → Batch → Airspace → Type 0
LeftWithPending salt a batch after =
    MayHaveStepped salt a (timed_in batch) (replies_made batch) after

-- Holds if the airspace can be durable after a batch in which some reply is `Stopped`: the pending
-- changes are lost, or they are durable.
abbrev pub MayHaveLeft : List ℕ → Airspace → Batch → Airspace → Type 0
MayHaveLeft salt a batch after =
    LeftWithoutPending salt a batch after ⊎ LeftWithPending salt a batch after

-- True if some reply that the batch delivered is `Stopped`.
abbrev pub batch_stops : Batch → Bool
batch_stops batch = has_stopped (replies_delivered batch)

-- Holds if P holds when something stopped, and Q when nothing did.
abbrev pub IfStopped : Bool → Type 0 → Type 0 → Type 0
IfStopped true P Q = P
IfStopped false P Q = Q

-- Holds if the airspace can be durable after batches. There are two cases. If some batch delivered
-- `Stopped`, the airspace is one that the first such batch can have left. Otherwise it is the one
-- after all answered calls.
abbrev pub MayHavePersisted : List ℕ → Airspace → List Batch → Airspace → Type 0
MayHavePersisted salt a [] after = after ≡ a
MayHavePersisted salt a (batch ∷ batches) after =
    IfStopped (batch_stops batch) (MayHaveLeft salt a batch after)
    (MayHavePersisted salt (airspace_of salt a batch) batches after)

-- Holds if every reply after the first batch with a reply `Stopped` is `Stopped`.
abbrev pub StayStoppedIn : List Batch → Type 0
StayStoppedIn [] = Unit {0}
StayStoppedIn (batch ∷ batches) = IfStopped (batch_stops batch)
    (All (λ r. r ≡ Stopped) (all_delivered batches)) (StayStoppedIn batches)

-- Holds if the delivered replies are those of the policy, except for the calls that failed. While
-- the service is not shut, no reply is `Stopped` and the airspace of the policy is durable. No
-- airspace is durable that the batches cannot have left.
pub record RunsInBatches {S : Type 0} (k : settles.Ghosts S) (salt : List ℕ) (a : Airspace)
    (batches : List Batch) (new : Service S) : Type 0 where
  pub replies : delivered_replies (all_delivered batches)
      ≡ replies_of salt a (answered_calls (all_timed batches) (all_delivered batches))
  pub stopped : StayStoppedIn batches
  pub goes : is_shut new ≡ false → has_stopped (all_delivered batches) ≡ false
  pub whole : is_shut new ≡ false → IsContent k.persists (space_of new)
      (airspace_after salt a (answered_calls (all_timed batches) (all_delivered batches)))
  pub kept : (b : Airspace) → k.persists (space_of new) b → MayHavePersisted salt a batches b

-- ---- laws

-- States that the delivered replies over batches, and the durable airspace after them, are those of
-- the policy.
abbrev pub BatchesAreThePolicy : {S : Type 0} → spaces.Ghosts S → settles.Ghosts S → Type 0
BatchesAreThePolicy {S} g k = (old new : Service S) (batches : List Batch) (a : Airspace)
    → AskedInBatches g k old batches new a → RunsInBatches k (salt_of old) a batches new

-- States what is durable within an open batch, as after a crash: the same as if its changes were
-- not committed. Its deferred replies were not delivered yet, and count as failures.
abbrev pub OpenBatchIsNotDurable : {S : Type 0} → spaces.Ghosts S → settles.Ghosts S → Type 0
OpenBatchIsNotDurable {S} g k =
    (old mid new : Service S) (batches : List Batch) (calls : List CallRecord) (a : Airspace)
    → AskedInBatches g k old batches mid a → CalledInOrder g k mid calls new
    → g.is_sound (space_of new)
    → RunsInBatches k (salt_of old) a (batches ++ uncommitted calls ∷ []) new

-- States that the calls of a batch were made in order.
abbrev pub BatchIsAsked : {S : Type 0} → spaces.Ghosts S → settles.Ghosts S → Type 0
BatchIsAsked {S} g k = (old new : Service S) (batch : Batch) → CalledInOrder g k old batch.calls new
    → AskedInOrder g old (timed_in batch) (replies_made batch) new

-- States that if every batch was committed, the calls have the replies of a run without pending
-- changes.
abbrev pub CommittedBatchesRun : {S : Type 0} → spaces.Ghosts S → settles.Ghosts S → Type 0
CommittedBatchesRun {S} g k = (old new : Service S) (batches : List Batch) (a : Airspace)
    → AskedInBatches g k old batches new a → AllByRecursion (λ batch. batch.settled ≡ Ok tt) batches
    → Runs g (salt_of old) a (all_timed batches) (all_delivered batches) (space_of new)

-- States that after batches from the empty airspace, each durable entity has the OVN of its serial.
abbrev pub BatchesAreNumbered : {S : Type 0} → settles.Ghosts S → Type 0
BatchesAreNumbered {S} k =
    (salt : List ℕ) (n : ℕ) (batches : List Batch) (new : Service S) (a : Airspace)
    → RunsInBatches k salt (empty_at n) batches new → k.persists (space_of new) a → AllNumbered salt a

-- States that the later of two meeting entities knew the other, and each index is the number of
-- calls that notified the subscription. It assumes that no reply was `Stopped`.
abbrev pub BatchesAreAware : {S : Type 0} → settles.Ghosts S → Type 0
BatchesAreAware {S} k =
    (salt : List ℕ) (n : ℕ) (batches : List Batch) (new : Service S) (a : Airspace)
    → RunsInBatches k salt (empty_at n) batches new → has_stopped (all_delivered batches) ≡ false
    → k.persists (space_of new) a
    → Aware salt (empty_at n) (all_timed batches) (all_delivered batches) a

abbrev pub BatchesAreCounted : {S : Type 0} → settles.Ghosts S → Type 0
BatchesAreCounted {S} k =
    (salt : List ℕ) (n : ℕ) (batches : List Batch) (new : Service S) (a : Airspace)
    → RunsInBatches k salt (empty_at n) batches new → has_stopped (all_delivered batches) ≡ false
    → k.persists (space_of new) a
    → Counts salt (empty_at n) (all_timed batches) (all_delivered batches) a
