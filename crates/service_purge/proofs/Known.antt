-- Lemmas: what is known over segments from the empty airspace.
use Rattle.std.specs.Prelude.{◌≡◌, ℕ, ◌+◌, false, List, [], ◌∷◌, ◌++◌, filter, length, Option, Some, None, refl}
use Rattle.std.proofs.Common.{sym, ap, ◌∙◌, subst, inl, inr, append_assoc}
use Rattle.std.proofs.lemmas.List.{append-nil, length-append}
use Rattle.std.proofs.lemmas.List.Elements.{filter-append}
use Rattle.std.specs.List.{AllByRecursion}
use Rattle.std.specs.Ordering.{nat_cmp}
use Rattle.std.specs.FinMap.{get, get-empty}
use Rattle.entity_core.specs.Airspace.{Airspace, EntityKey, empty_at}
use Rattle.entity_core.specs.declared.subscription.Sub.{Sub}
use Rattle.entity_purge.specs.Purge.{IsPartlyPurged}
use Rattle.space_core.specs.declared.group_commit.GroupCommit as settles
use Rattle.service_step.specs.declared.reply.Reply.{Reply}
use Rattle.service_calls.specs.Aware.{MadeCall, last_writer, later_or}
use Rattle.service_calls.specs.Count.{IsCounted, creates_sub, done_calls, notified}
use Rattle.service_calls.specs.Batches.{IfStopped, MayHavePersisted, Batch, all_timed, all_delivered}
use Rattle.service_calls.specs.Run.{TimedCall, airspace_after, answered_calls, has_stopped}
use Rattle.service_calls.specs.Purged.{AllStopped, AreTold, AreDeliveredAndDurable, Segment, airspace_after_batches, all_delivered_in}
use Rattle.service_calls.proofs.Awares.{Kept, kept_empty, kept_run, last_told, later_later, later_none}
use Rattle.service_calls.proofs.Counts.{tally_run}
use Rattle.service_calls.proofs.Joined.{goes_first, stops_then}
use Rattle.service_calls.proofs.BatchLaws.{kept_all}
use Rattle.service_calls.proofs.SegmentLaws.{kept_partly}
use Rattle.service_purge.specs.Segments.{SegmentsAreAware, Stretch, StretchesTo, done_in, last_put}

-- ---- counts over calls, and over later calls

all_append : (P : MadeCall → Type 0) (ms ns : List MadeCall) → AllByRecursion P ms → AllByRecursion P ns → AllByRecursion P (ms ++ ns)
all_append P [] ns all more = more
all_append P (m ∷ ms) ns all more = (all.0, all_append P ms ns all.1 more)

-- The count also holds if one of the later calls created the subscription.
counted_late : (id : ℕ) (made more : List MadeCall) (index : ℕ) → IsCounted id more index → IsCounted id (made ++ more) index
counted_late id made more index counted = record {
  earlier = made ++ counted.earlier;
  creation = counted.creation;
  later = counted.later;
  split = ap (λ (ms : List MadeCall). made ++ ms) counted.split ∙ sym (append_assoc made counted.earlier (counted.creation ∷ counted.later));
  creates = counted.creates;
  last = counted.last;
  count = counted.count;
}

-- The count continues if none of the later calls created the subscription.
counted_on : (id : ℕ) (made more : List MadeCall) (was index : ℕ) → IsCounted id made was → AllByRecursion (λ m. creates_sub id m.call.op ≡ false) more → index ≡ was + length (filter (notified id) more) → IsCounted id (made ++ more) index
counted_on id made more was index counted none is =
    let notifying : List MadeCall → List MadeCall = filter (notified id) in
    record {
      earlier = counted.earlier;
      creation = counted.creation;
      later = counted.later ++ more;
      split = ap (λ (ms : List MadeCall). ms ++ more) counted.split ∙ append_assoc counted.earlier (counted.creation ∷ counted.later) more;
      creates = counted.creates;
      last = all_append (λ m. creates_sub id m.call.op ≡ false) counted.later more counted.last none;
      count = is ∙ (ap (λ (n : ℕ). n + length (notifying more)) counted.count
          ∙ sym (ap length (filter-append (notified id) counted.later more) ∙ length-append (notifying counted.later) (notifying more)));
    }

-- Holds if each index is the number of these calls that notified its subscription.
abbrev AllCounted : List MadeCall → Airspace → Type 0
AllCounted made a = (id : ℕ) (s : Sub) → get a.subscriptions id ≡ Some s → IsCounted id made s.index

none_counted : (n : ℕ) → AllCounted [] (empty_at n)
none_counted n id s there = let e : None ≡ Some s = sym (get-empty nat_cmp id) ∙ there in cc

-- ---- one stretch

module _ (salt : List ℕ) (a : Airspace) (batches : List Batch) (told : AreTold salt a batches) (goes : has_stopped (all_delivered batches) ≡ false) where
  abbrev writer : EntityKey → Option MadeCall
  writer k = last_writer salt k a (all_timed batches) (all_delivered batches)

  abbrev done : List MadeCall
  done = done_calls salt a (all_timed batches) (all_delivered batches)

  counted_then : (made : List MadeCall) → AllCounted made a → AllCounted (made ++ done) (airspace_after_batches salt a batches)
  counted_then made was id s there =
      elim (tally_run salt (all_timed batches) (all_delivered batches) a goes told.replies id s there) [
        | inl counted ↦ counted_late id made done s.index counted
        | inr old ↦ counted_on id made done old.was.index s.index (was id old.was old.there) old.none old.index
      ]

  kept_then : (last : EntityKey → Option MadeCall) → Kept salt last a → Kept salt (λ k. later_or (writer k) (last k)) (airspace_after_batches salt a batches)
  kept_then last kept =
      let answered : List TimedCall = answered_calls (all_timed batches) (all_delivered batches) in
      subst (λ (f : EntityKey → Option MadeCall). Kept salt f (airspace_after salt a answered))
      (λ i k. (ap (λ (rs : List Reply). later_or (last_writer salt k a answered rs) (last k)) (sym told.replies)
      ∙ ap (λ (o : Option MadeCall). later_or o (last k)) (last_told salt k a (all_timed batches) (all_delivered batches) goes)) i)
      (kept_run salt last answered a kept)

-- ---- all stretches

-- The properties over all stretches, given a last put of each entity and the counted calls.
record KnownSince (salt : List ℕ) (last : EntityKey → Option MadeCall) (made : List MadeCall) (from : Airspace) (segments : List Segment) (batches : List Batch) (a : Airspace) : Type 0 where
  came : StretchesTo salt from segments batches a
  kept : Kept salt (λ k. later_or (last_put salt (came.first ∷ came.others) k) (last k)) a
  counted : AllCounted (made ++ done_in salt (came.first ∷ came.others)) a

known_since : (salt : List ℕ) (segments : List Segment) (batches : List Batch) (last : EntityKey → Option MadeCall) (made : List MadeCall) (from a : Airspace) → Kept salt last from → AllCounted made from
    → has_stopped (all_delivered_in segments batches) ≡ false → AreDeliveredAndDurable salt from segments batches a → KnownSince salt last made from segments batches a
known_since salt [] batches last made from a kept counted goes both =
    let is : a ≡ airspace_after_batches salt from batches = kept_all salt from batches a goes both.1 in
    record {
      came = record {
        first = record { from = from; batches = batches };
        others = [];
        begins = refl;
        follow = record { is_last = refl; left = is };
        told = (both.0, tt);
      };
      kept = subst (Kept salt (λ k. later_or (writer salt from batches both.0 goes k) (last k))) (sym is) (kept_then salt from batches both.0 goes last kept);
      counted = subst (λ (ms : List MadeCall). AllCounted (made ++ ms) a) (sym (append-nil (done salt from batches both.0 goes)))
          (subst (AllCounted (made ++ done salt from batches both.0 goes)) (sym is) (counted_then salt from batches both.0 goes made counted));
    }
known_since salt (segment ∷ segments) batches last made from a kept counted goes both =
    let first : has_stopped (all_delivered segment.batches) ≡ false = goes_first (all_delivered segment.batches) (all_delivered_in segments batches) goes in
    let after : Airspace = airspace_after_batches salt from segment.batches in
    let left : (b : Airspace) × IsPartlyPurged segment.until after b × AreDeliveredAndDurable salt b segments batches a =
    subst (λ x. IfStopped x (AllStopped segments batches × MayHavePersisted salt from segment.batches a) ((b : Airspace) × IsPartlyPurged segment.until after b × AreDeliveredAndDurable salt b segments batches a)) first both.1 in
    let put : EntityKey → Option MadeCall = writer salt from segment.batches both.0 first in
    let calls : List MadeCall = done salt from segment.batches both.0 first in
    let rest = known_since salt segments batches (λ k. later_or (put k) (last k)) (made ++ calls) left.0 a
    (kept_partly salt (λ k. later_or (put k) (last k)) segment.until after left.0 (kept_then salt from segment.batches both.0 first last kept) left.1)
    (λ id s there. counted_then salt from segment.batches both.0 first made counted id s (left.1.subscriptions id s there))
    (sym (stops_then (all_delivered segment.batches) (all_delivered_in segments batches) first) ∙ goes) left.2 in
    record {
      came = record {
        first = record { from = from; batches = segment.batches };
        others = rest.came.first ∷ rest.came.others;
        begins = refl;
        follow = (record { batches = refl; partly = subst (IsPartlyPurged segment.until after) (sym rest.came.begins) left.1 }, rest.came.follow);
        told = (both.0, rest.came.told);
      };
      kept = subst (λ (f : EntityKey → Option MadeCall). Kept salt f a) (λ i k. later_later (last_put salt (rest.came.first ∷ rest.came.others) k) (put k) (last k) i) rest.kept;
      counted = subst (λ (ms : List MadeCall). AllCounted ms a) (append_assoc made calls (done_in salt (rest.came.first ∷ rest.came.others))) rest.counted;
    }

-- ---- the law

pub segments_aware : {S : Type 0} (k : settles.Ghosts S) → SegmentsAreAware k
segments_aware k salt n segments batches new a runs goes held =
    let known = known_since salt segments batches (λ l. None) [] (empty_at n) a (kept_empty salt n) (none_counted n) goes (runs.both a held) in
    let stretches : List Stretch = known.came.first ∷ known.came.others in
    let kept : Kept salt (last_put salt stretches) a = subst (λ (f : EntityKey → Option MadeCall). Kept salt f a) (λ i l. later_none (last_put salt stretches l) i) known.kept in
    record {
      came = known.came;
      known = record { proper = kept.proper; serials = kept.serials; knew = kept.knew; counted = known.counted };
    }
