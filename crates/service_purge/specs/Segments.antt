-- What is known over all segments, with purges of ended items between them.
use Rattle.std.specs.Prelude.{◌≡◌, ℕ, ◌≤◌, max, false, List, [], ◌∷◌, ◌++◌, Option, Some, None}
use Rattle.std.specs.List.{AllByRecursion, flat_map}
use Rattle.std.specs.FinMap.{get}
use Rattle.entity_core.specs.Airspace.{Airspace, EntityKey, IsAirspace, empty_at}
use Rattle.entity_core.specs.declared.subscription.Sub.{Sub}
use Rattle.entity_purge.specs.Purge.{IsPartlyPurged}
use Rattle.space_core.specs.declared.group_commit.GroupCommit as settles
use Rattle.service_calls.specs.declared.service.Service.{Service}
use Rattle.service_calls.specs.Aware.{KnewOthers, MadeCall, SerialsDiffer, last_writer, later_or}
use Rattle.service_calls.specs.Count.{IsCounted, done_calls}
use Rattle.service_calls.specs.Held.{space_of}
use Rattle.service_calls.specs.Batches.{Batch, all_timed, all_delivered}
use Rattle.service_calls.specs.Run.{TimedCall, airspace_after, answered_calls, has_stopped, replies_of, delivered_replies}
use Rattle.service_calls.specs.Purged.{AreTold, RunsPurged, Segment, airspace_after_batches, all_delivered_in}
use Rattle.service_purge.specs.Ahead.{AgreeAhead, AllLookAhead, AllReadOrLookAhead}

-- ---- stretches

-- Batches, and the airspace before the first of them.
pub record Stretch : Type 0 where
  pub from : Airspace
  pub batches : List Batch

-- The airspace that a stretch leaves.
abbrev pub left_by : List ℕ → Stretch → Airspace
left_by salt stretch = airspace_after_batches salt stretch.from stretch.batches

-- Holds if the stretch is that of the segment, and the next one begins in the airspace that it
-- leaves, partly purged.
pub record LeadsTo (salt : List ℕ) (segment : Segment) (stretch next : Stretch) : Type 0 where
  pub batches : stretch.batches ≡ segment.batches
  pub partly : IsPartlyPurged segment.until (left_by salt stretch) next.from

-- Holds if the stretch is that of the batches after all segments, and leaves the airspace.
pub record EndsIn (salt : List ℕ) (batches : List Batch) (stretch : Stretch) (after : Airspace)
    : Type 0 where
  pub is_last : stretch.batches ≡ batches
  pub left : after ≡ left_by salt stretch

-- Holds if these are the stretches of the segments, in order, and of the batches after them.
-- `after` is the airspace left.
abbrev pub Follow : List ℕ → List Segment → List Batch → List Stretch → Airspace → Type 0
Follow salt [] batches [] after = ⊥
Follow salt [] batches (stretch ∷ []) after = EndsIn salt batches stretch after
Follow salt [] batches (stretch ∷ next ∷ stretches) after = ⊥
Follow salt (segment ∷ segments) batches [] after = ⊥
Follow salt (segment ∷ segments) batches (stretch ∷ []) after = ⊥
Follow salt (segment ∷ segments) batches (stretch ∷ next ∷ stretches) after =
    LeadsTo salt segment stretch next × Follow salt segments batches (next ∷ stretches) after

-- The last call in all stretches that was answered `Done` and created or updated the entity of a
-- key.
abbrev pub last_put : List ℕ → List Stretch → EntityKey → Option MadeCall
last_put salt [] k = None
last_put salt (stretch ∷ stretches) k = later_or (last_put salt stretches k)
    (last_writer salt k stretch.from (all_timed stretch.batches) (all_delivered stretch.batches))

-- The calls in all stretches that were answered `Done`, in order, each with the airspace before it.
abbrev pub done_in : List ℕ → List Stretch → List MadeCall
done_in salt stretches =
    flat_map (λ stretch. done_calls salt stretch.from (all_timed stretch.batches)
    (all_delivered stretch.batches)) stretches

-- The stretches by which an airspace came about, from another one.
pub record StretchesTo (salt : List ℕ) (from : Airspace) (segments : List Segment)
    (batches : List Batch) (a : Airspace) : Type 0 where
  pub first : Stretch
  pub others : List Stretch
  pub begins : first.from ≡ from
  pub follow : Follow salt segments batches (first ∷ others) a
  -- The replies in each stretch are those of the policy, except for the calls that failed.
  pub told : AllByRecursion (λ stretch. AreTold salt stretch.from stretch.batches) (first ∷ others)

-- Holds if an airspace has these properties after stretches.
pub record KnownAfter (salt : List ℕ) (stretches : List Stretch) (a : Airspace) : Type 0 where
  pub proper : IsAirspace a
  -- Serials differ. The last put of the later of two meeting entities knew the other, if the later
  -- one is an intent that is planned or flown as planned. The put can be in any stretch.
  pub serials : SerialsDiffer a
  pub knew : KnewOthers (last_put salt stretches) a
  -- Each index is the number of calls, in any stretch, that notified the subscription after the
  -- last call that created it.
  pub counted : (id : ℕ) (s : Sub) → get a.subscriptions id ≡ Some s
      → IsCounted id (done_in salt stretches) s.index

-- Holds if an airspace came about by some stretches of the segments and of the batches after them,
-- and has these properties after them.
pub record KnownOver (salt : List ℕ) (from : Airspace) (segments : List Segment)
    (batches : List Batch) (a : Airspace) : Type 0 where
  pub came : StretchesTo salt from segments batches a
  pub known : KnownAfter salt (came.first ∷ came.others) a

-- ---- the same without purges

-- The calls of segments, and of the batches after them.
abbrev pub all_timed_in : List Segment → List Batch → List TimedCall
all_timed_in [] batches = all_timed batches
all_timed_in (segment ∷ segments) batches = all_timed segment.batches ++ all_timed_in segments batches

-- The calls up to the first `Stopped` whose reply is not `Fault`: of batches, and of segments and
-- the batches after them.
abbrev pub answered_of : List Batch → List TimedCall
answered_of batches = answered_calls (all_timed batches) (all_delivered batches)

abbrev pub answered_in : List Segment → List Batch → List TimedCall
answered_in segments batches =
    answered_calls (all_timed_in segments batches) (all_delivered_in segments batches)

-- Holds if no purge was up to a later time.
abbrev pub PurgedBy : ℕ → List Segment → Type 0
PurgedBy until segments = AllByRecursion (λ segment. segment.until ≤ until) segments

-- Holds if each answered call is forward-looking from all purges before it, in its airspace without
-- purges. The purges before the first segment were up to `until` or earlier.
abbrev pub LookAheadSince : ℕ → List ℕ → Airspace → List Segment → List Batch → Type 0
LookAheadSince until salt a [] batches = AllLookAhead until salt (answered_of batches) a
LookAheadSince until salt a (segment ∷ segments) batches =
    AllLookAhead until salt (answered_of segment.batches) a
    × LookAheadSince (max until segment.until) salt (airspace_after_batches salt a segment.batches)
    segments batches

-- The same without a purge before the first segment, whose calls can be any.
abbrev pub LookAheadOncePurged : List ℕ → Airspace → List Segment → List Batch → Type 0
LookAheadOncePurged salt a [] batches = Unit {0}
LookAheadOncePurged salt a (segment ∷ segments) batches = LookAheadSince segment.until salt
    (airspace_after_batches salt a segment.batches) segments batches

-- Holds if the replies over segments and batches are those of the policy to the same calls without
-- purges. The durable airspace is the one that these calls leave without purges, partly purged.
pub record AreUnseen {S : Type 0} (k : settles.Ghosts S) (salt : List ℕ) (a : Airspace)
    (segments : List Segment) (batches : List Batch) (new : Service S) : Type 0 where
  pub told : delivered_replies (all_delivered_in segments batches)
      ≡ replies_of salt a (answered_in segments batches)
  pub kept : (until : ℕ) (b : Airspace) → PurgedBy until segments → k.persists (space_of new) b
      → IsPartlyPurged until (airspace_after salt a (answered_in segments batches)) b

-- ---- laws

-- States that the later of two meeting entities knew the other, and each index is the number of
-- calls that notified the subscription. It holds after segments and batches from the empty airspace
-- if no reply was `Stopped`; the purges between do not matter.
abbrev pub SegmentsAreAware : {S : Type 0} → settles.Ghosts S → Type 0
SegmentsAreAware {S} k =
    (salt : List ℕ) (n : ℕ) (segments : List Segment) (batches : List Batch) (new : Service S)
    (a : Airspace) → RunsPurged k salt (empty_at n) segments batches new
    → has_stopped (all_delivered_in segments batches) ≡ false → k.persists (space_of new) a
    → KnownOver salt (empty_at n) segments batches a

-- States that purges between batches are invisible, from any airspace. It assumes that no reply was
-- `Stopped`, and that each call is forward-looking from the purges before it.
abbrev pub SegmentsAreInvisible : {S : Type 0} → settles.Ghosts S → Type 0
SegmentsAreInvisible {S} k =
    (salt : List ℕ) (a : Airspace) (segments : List Segment) (batches : List Batch) (new : Service S)
    → IsAirspace a → RunsPurged k salt a segments batches new
    → has_stopped (all_delivered_in segments batches) ≡ false → LookAheadOncePurged salt a segments batches
    → AreUnseen k salt a segments batches new

-- States that it suffices if each call after the first purge is forward-looking from one time that
-- is not before the time of any purge.
abbrev pub OneMomentIsEnough : Type 0
OneMomentIsEnough =
    (until : ℕ) (salt : List ℕ) (a : Airspace) (segment : Segment) (segments : List Segment)
    (batches : List Batch) → PurgedBy until (segment ∷ segments)
    → has_stopped (all_delivered_in segments batches) ≡ false
    → AllLookAhead until salt (answered_in segments batches)
    (airspace_after_batches salt a segment.batches)
    → LookAheadOncePurged salt a (segment ∷ segments) batches

-- Holds if the replies in the first segment are those of the policy, and each later call that is
-- forward-looking got the policy's reply to the same calls without purges. The durable airspace is
-- the one that these calls leave without purges, partly purged.
pub record AreUnseenAhead {S : Type 0} (k : settles.Ghosts S) (until : ℕ) (salt : List ℕ)
    (a : Airspace) (segment : Segment) (segments : List Segment) (batches : List Batch)
    (new : Service S) : Type 0 where
  pub first : delivered_replies (all_delivered segment.batches)
      ≡ replies_of salt a (answered_of segment.batches)
  pub told : AgreeAhead until salt (airspace_after_batches salt a segment.batches)
      (answered_in segments batches) (delivered_replies (all_delivered_in segments batches))
      (replies_of salt (airspace_after_batches salt a segment.batches)
      (answered_in segments batches))
  pub kept : (b : Airspace) → k.persists (space_of new) b → IsPartlyPurged until
      (airspace_after salt a (answered_in (segment ∷ segments) batches)) b

-- States that purges are invisible to forward-looking calls although others look back, as long as
-- those change nothing. It assumes that no reply was `Stopped`, and one time that is not before the
-- time of any purge.
abbrev pub ReadersMayLookBack : {S : Type 0} → settles.Ghosts S → Type 0
ReadersMayLookBack {S} k =
    (until : ℕ) (salt : List ℕ) (a : Airspace) (segment : Segment) (segments : List Segment)
    (batches : List Batch) (new : Service S)
    → IsAirspace a → RunsPurged k salt a (segment ∷ segments) batches new
    → has_stopped (all_delivered_in (segment ∷ segments) batches) ≡ false
    → PurgedBy until (segment ∷ segments)
    → AllReadOrLookAhead until salt (answered_in segments batches)
    (airspace_after_batches salt a segment.batches)
    → AreUnseenAhead k until salt a segment segments batches new
