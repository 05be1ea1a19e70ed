-- Batches with purges of ended items between them.
use Rattle.std.specs.Prelude.{◌≡◌, ◌<◌, ◌≤◌, ℕ, Bool, true, false, List, [], ◌∷◌, ◌++◌, length, All, Result, Ok, Err, IsErrOf, IfOk}
use Rattle.entity_core.specs.Airspace.{Airspace, empty_at}
use Rattle.entity_purge.specs.declared.purge_item.PurgeItem.{PurgeItem}
use Rattle.entity_purge.specs.PurgeItem.{AreDueForPurge, IsPurgedAlready, without_items}
use Rattle.entity_purge.specs.Purge.{IsPartlyPurged}
use Rattle.space_core.specs.declared.space.Space as spaces
use Rattle.space_core.specs.declared.group_commit.GroupCommit as settles
use Rattle.space_core.specs.declared.space.SpaceFault.{SpaceFault}
use Rattle.space_core.specs.declared.space.SpaceFault.TheVariants.{Broken, Unchanged}
use Rattle.space_core.specs.Calls.{CallReportsFault}
use Rattle.space_core.specs.Space.{IsContent, is_broken_after}
use Rattle.service_step.specs.declared.reply.Reply.{Reply}
use Rattle.service_step.specs.declared.reply.Reply.TheVariants.{Stopped}
use Rattle.service_calls.specs.declared.service.Service.{Service}
use Rattle.service_calls.specs.Held.{is_shut, salt_of, space_of}
use Rattle.service_calls.specs.Batches.{IfStopped, CallRecord, CalledInOrder, MadeBatches, MayHavePersisted, Batch, StayStoppedIn, all_timed, all_delivered, uncommitted}
use Rattle.service_calls.specs.Run.{airspace_after, answered_calls, has_stopped, replies_of, delivered_replies}
use Rattle.service_calls.specs.Stale.{AllNumbered}

-- ---- purge chunks

-- Holds if the space has the right content after a purge chunk, given its content `a` before. After
-- `Ok` it is `a`, partly purged; after `Unchanged` it is `a`. After `Broken` the space holds only
-- airspaces that are `a`, purged in part or not at all.
abbrev pub LeavesPartly : {S : Type 0} → spaces.Ghosts S → ℕ → Airspace → S → Result ℕ SpaceFault
    → Type 0
LeavesPartly g until a new (Ok n) =
    (b : Airspace) × IsContent g.holds new b × IsPartlyPurged until a b
LeavesPartly g until a new (Err Unchanged) = IsContent g.holds new a
LeavesPartly g until a new (Err Broken) = (b : Airspace) → g.holds new b → IsPartlyPurged until a b

-- Holds if `n` items were purged, at most `most`, and each was due for the purge. The content is
-- the airspace `a` without them.
pub record ArePurged {S : Type 0} (g : spaces.Ghosts S) (until most n : ℕ) (a : Airspace) (new : S)
    : Type 0 where
  pub gone : List PurgeItem
  pub count : length gone ≡ n
  pub few : n ≤ most
  pub go : AreDueForPurge until gone a
  pub content : IsContent g.holds new (without_items gone a)

module _ {S : Type 0} (g : spaces.Ghosts S) (k : settles.Ghosts S) where
  -- Holds if some of what had ended by a time was purged, and the result is their number. The
  -- number is zero only if nothing is left to purge. If the space broke, the service is shut. A
  -- service that was shut is unchanged.
  pub record IsPurge (until most : ℕ) (old new : Service S) (result : Result ℕ SpaceFault)
      : Type 0 where
    pub salt : salt_of new ≡ salt_of old
    pub shut : is_shut old ≡ true → (new ≡ old) × IsErrOf result Broken
    pub shuts : is_shut new ≡ is_broken_after (is_shut old) result
    pub tells : is_shut old ≡ false → CallReportsFault g (space_of old) (space_of new) result
    pub waits : k.is_pending (space_of new) ≡ k.is_pending (space_of old)
    pub sound : g.is_sound (space_of new) → g.is_sound (space_of old)
    pub whole : g.is_sound (space_of new) → g.is_whole (space_of old) → g.is_whole (space_of new)
    pub left : g.is_sound (space_of new) → (a : Airspace) → IsContent g.holds (space_of old) a
        → LeavesPartly g until a (space_of new) result
    pub gone : g.is_sound (space_of new) → (a : Airspace) → IsContent g.holds (space_of old) a
        → IfOk result (λ n. ArePurged g until most n a (space_of new))
    pub last : g.is_sound (space_of new) → IfOk result (λ n. n ≡ 0 → 0 < most
        → (a : Airspace) → g.holds (space_of new) a → IsPurgedAlready until a)

  -- Holds for a purge chunk of any size with any result.
  abbrev pub PurgesOnce : ℕ → Service S → Service S → Type 0
  PurgesOnce until old new =
      (most : ℕ) × (result : Result ℕ SpaceFault) × IsPurge until most old new result

-- ---- segments

-- Batches, and then a purge chunk up to a time.
pub record Segment : Type 0 where
  pub batches : List Batch
  pub until : ℕ

module _ {S : Type 0} (g : spaces.Ghosts S) (k : settles.Ghosts S) where
  -- Holds if the service ran these segments in order.
  abbrev pub MadeSegments : Service S → List Segment → Service S → Type 0
  MadeSegments old [] new = new ≡ old
  MadeSegments old (segment ∷ segments) new =
      (mid : Service S) × (end : Service S) × MadeBatches g k old segment.batches mid
      × PurgesOnce g k segment.until mid end × MadeSegments end segments new

  -- Holds if a service that was not shut ran these segments, and then these batches. Its space had
  -- a single airspace and nothing pending before, and is sound afterwards.
  pub record AskedInSegments (old : Service S) (segments : List Segment) (batches : List Batch)
      (new : Service S) (a : Airspace) : Type 0 where
    pub goes : is_shut old ≡ false
    pub calm : k.is_pending (space_of old) ≡ false
    pub content : IsContent g.holds (space_of old) a
    pub last : Service S
    pub segments_made : MadeSegments old segments last
    pub made : MadeBatches g k last batches new
    pub sound : g.is_sound (space_of new)

-- ---- delivered replies and durable airspaces

-- The airspace after the answered calls of batches.
abbrev pub airspace_after_batches : List ℕ → Airspace → List Batch → Airspace
airspace_after_batches salt a batches =
    airspace_after salt a (answered_calls (all_timed batches) (all_delivered batches))

-- Holds if the delivered replies over batches are those of the policy, except for the calls that
-- failed.
pub record AreTold (salt : List ℕ) (a : Airspace) (batches : List Batch) : Type 0 where
  pub replies : delivered_replies (all_delivered batches)
      ≡ replies_of salt a (answered_calls (all_timed batches) (all_delivered batches))
  pub stopped : StayStoppedIn batches

-- The replies delivered in segments, and in the batches after them.
abbrev pub all_delivered_in : List Segment → List Batch → List Reply
all_delivered_in [] batches = all_delivered batches
all_delivered_in (segment ∷ segments) batches = all_delivered segment.batches ++ all_delivered_in segments batches

-- Holds if every delivered reply is `Stopped`.
abbrev pub AllStopped : List Segment → List Batch → Type 0
AllStopped segments batches = All (λ r. r ≡ Stopped) (all_delivered_in segments batches)

-- True if some reply that the segment delivered is `Stopped`.
abbrev pub segment_stops : Segment → Bool
segment_stops segment = has_stopped (all_delivered segment.batches)

-- What is claimed over segments. Each claim is about batches and the airspace before them.
pub record SegmentClaim : Type 1 where
  -- Of the batches of each segment.
  pub each : Airspace → List Batch → Type 0
  -- Of the batches of the first segment that delivered `Stopped`, and of the segments and batches
  -- after it.
  pub stopped : Airspace → List Batch → List Segment → List Batch → Type 0
  -- Of the batches after the last segment.
  pub last : Airspace → List Batch → Type 0

-- Holds if the claim is true over segments and the batches after them, beginning in an airspace.
-- After a segment that delivered no `Stopped`, the next one begins in the airspace that this one
-- left, partly purged. After one that did, nothing more is claimed than `stopped`.
abbrev pub OverSegments : SegmentClaim → List ℕ → Airspace → List Segment → List Batch → Type 0
OverSegments claim salt a [] batches = claim.last a batches
OverSegments claim salt a (segment ∷ segments) batches = claim.each a segment.batches
    × IfStopped (segment_stops segment) (claim.stopped a segment.batches segments batches)
    ((b : Airspace) × IsPartlyPurged segment.until (airspace_after_batches salt a segment.batches) b
    × OverSegments claim salt b segments batches)

-- Holds if the replies in each segment are those of the policy over the airspace that the segment
-- before left, partly purged. After the first segment that stopped, every reply is `Stopped`.
abbrev pub AreDeliveredPurged : List ℕ → Airspace → List Segment → List Batch → Type 0
AreDeliveredPurged salt a segments batches = OverSegments (record {
  each = AreTold salt;
  stopped = λ a now segments batches. AllStopped segments batches;
  last = AreTold salt;
}) salt a segments batches

-- Holds if the airspace can be durable after segments and batches: after the segment that stopped,
-- or after the batches over the airspace that the segments before left, partly purged.
abbrev pub MayHavePersistedPurged : List ℕ → Airspace → List Segment → List Batch → Airspace → Type 0
MayHavePersistedPurged salt a segments batches after = OverSegments (record {
  each = λ a now. Unit {0};
  stopped = λ a now segments batches. MayHavePersisted salt a now after;
  last = λ a now. MayHavePersisted salt a now after;
}) salt a segments batches

-- Holds if both the replies and the durable airspace are possible over the same airspaces between
-- segments.
abbrev pub AreDeliveredAndDurable : List ℕ → Airspace → List Segment → List Batch → Airspace → Type 0
AreDeliveredAndDurable salt a segments batches after = OverSegments (record {
  each = AreTold salt;
  stopped = λ a now segments batches.
      AllStopped segments batches × MayHavePersisted salt a now after;
  last = λ a now. AreTold salt a now × MayHavePersisted salt a now after;
}) salt a segments batches

-- Holds if the delivered replies and the durable airspace are those of the policy over what the
-- purges left. While the service is not shut, no reply is `Stopped` and one airspace is durable. No
-- airspace is durable that the segments cannot have left.
pub record RunsPurged {S : Type 0} (k : settles.Ghosts S) (salt : List ℕ) (a : Airspace)
    (segments : List Segment) (batches : List Batch) (new : Service S) : Type 0 where
  pub told : AreDeliveredPurged salt a segments batches
  pub goes : is_shut new ≡ false → has_stopped (all_delivered_in segments batches) ≡ false
  pub whole : is_shut new ≡ false → (b : Airspace) × IsContent k.persists (space_of new) b
  pub kept : (b : Airspace) → k.persists (space_of new) b → MayHavePersistedPurged salt a segments batches b
  pub both : (b : Airspace) → k.persists (space_of new) b → AreDeliveredAndDurable salt a segments batches b

-- ---- laws

-- States that over segments and batches, the delivered replies and the durable airspace are those
-- of the policy over what the purges left.
abbrev pub SegmentsAreThePolicy : {S : Type 0} → spaces.Ghosts S → settles.Ghosts S → Type 0
SegmentsAreThePolicy {S} g k =
    (old new : Service S) (segments : List Segment) (batches : List Batch) (a : Airspace)
    → AskedInSegments g k old segments batches new a
    → RunsPurged k (salt_of old) a segments batches new

-- States what is durable within an open batch, as after a crash: the same as if its changes were
-- not committed.
abbrev pub OpenSegmentIsNotDurable : {S : Type 0} → spaces.Ghosts S → settles.Ghosts S → Type 0
OpenSegmentIsNotDurable {S} g k =
    (old mid new : Service S) (segments : List Segment) (batches : List Batch) (calls : List CallRecord)
    (a : Airspace)
    → AskedInSegments g k old segments batches mid a → CalledInOrder g k mid calls new
    → g.is_sound (space_of new)
    → RunsPurged k (salt_of old) a segments (batches ++ uncommitted calls ∷ []) new

-- States that after segments and batches from the empty airspace, each durable entity has the OVN
-- of its serial.
abbrev pub PurgedIsNumbered : {S : Type 0} → settles.Ghosts S → Type 0
PurgedIsNumbered {S} k =
    (salt : List ℕ) (n : ℕ) (segments : List Segment) (batches : List Batch) (new : Service S)
    (a : Airspace) → RunsPurged k salt (empty_at n) segments batches new → k.persists (space_of new) a
    → AllNumbered salt a
