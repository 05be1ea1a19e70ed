-- Lemmas: over segments, forward-looking calls get the same replies as without purges.
use Rattle.std.specs.Prelude.{◌≡◌, ℕ, ◌≤◌, max, false, List, [], ◌∷◌, length, refl}
use Rattle.std.proofs.Common.{arith, sym, ap, ◌∙◌, subst}
use Rattle.std.proofs.lemmas.List.{length-append}
use Rattle.entity_core.specs.Airspace.{Airspace, IsAirspace}
use Rattle.entity_purge.specs.Purge.{IsPartlyPurged, purged}
use Rattle.entity_purge.proofs.Chunks.{chunks_make}
use Rattle.entity_purge.proofs.Purges.{purges_join}
use Rattle.space_core.specs.declared.group_commit.GroupCommit as settles
use Rattle.service_step.specs.Step.{step}
use Rattle.service_step.proofs.Preserves.{steps_keep}
use Rattle.service_calls.specs.Batches.{IfStopped, MayHavePersisted, Batch, all_timed, all_delivered, timed_in, replies_delivered}
use Rattle.service_calls.specs.Run.{TimedCall, airspace_after, has_stopped, replies_of, delivered_replies}
use Rattle.service_calls.specs.Purged.{AllStopped, AreDeliveredPurged, MayHavePersistedPurged, Segment, airspace_after_batches, all_delivered_in}
use Rattle.service_calls.proofs.InBatches.{even_in}
use Rattle.service_calls.proofs.Joined.{airspace_then, answered_then, goes_first, policy_then, stops_then}
use Rattle.service_calls.proofs.BatchLaws.{kept_all}
use Rattle.service_purge.specs.Segments.{LookAheadOncePurged, LookAheadSince, OneMomentIsEnough, SegmentsAreInvisible, PurgedBy, all_timed_in, answered_in, answered_of}
use Rattle.service_purge.specs.Ahead.{AllLookAhead}
use Rattle.service_purge.proofs.Runs.{run_unseen}
use Rattle.service_purge.proofs.Earlier.{all_earlier, all_split}

-- ---- purges

-- An airspace that is partly purged up to a time is also partly purged up to each later time.
pub partly_later : (u v : ℕ) (a b : Airspace) → u ≤ v → IsPartlyPurged u a b → IsPartlyPurged v a b
partly_later u v a b h part = record {
  entities = part.entities;
  subscriptions = part.subscriptions;
  same = sym (purges_join u v b h) ∙ (ap (purged v) part.same ∙ purges_join u v a h);
}

-- Two partial purges in sequence are one partial purge.
partly_then : (u v : ℕ) (a b c : Airspace) → IsPartlyPurged u a b → IsPartlyPurged v b c → IsPartlyPurged (max u v) a c
partly_then u v a b c one two =
    (chunks_make.more (max u v) a b (partly_later u (max u v) a b (omega arith) one)).further c (partly_later v (max u v) b c (omega arith) two)

-- ---- calls

pub after_proper : (salt : List ℕ) (a : Airspace) (cs : List TimedCall) → IsAirspace a → IsAirspace (airspace_after salt a cs)
after_proper salt a [] proper = proper
after_proper salt a (c ∷ cs) proper = after_proper salt (step salt a c.0 c.1).0 cs (steps_keep salt a c.0 c.1 proper)

pub even_all : (batches : List Batch) → length (all_delivered batches) ≡ length (all_timed batches)
even_all [] = refl
even_all (batch ∷ batches) =
    let one = even_in batch in
    let rest = even_all batches in
    omega (arith, length-append (replies_delivered batch) (all_delivered batches), length-append (timed_in batch) (all_timed batches), one, rest)

-- ---- segments

module _ (salt : List ℕ) (segment : Segment) (segments : List Segment) (batches : List Batch) (goes : has_stopped (all_delivered_in (segment ∷ segments) batches) ≡ false) where
  pub first_goes : has_stopped (all_delivered segment.batches) ≡ false
  first_goes = goes_first (all_delivered segment.batches) (all_delivered_in segments batches) goes

  pub others_go : has_stopped (all_delivered_in segments batches) ≡ false
  others_go = sym (stops_then (all_delivered segment.batches) (all_delivered_in segments batches) first_goes) ∙ goes

  module _ (a : Airspace) where
    abbrev left : Airspace
    left = airspace_after_batches salt a segment.batches

    -- The airspace that a purge left, and the replies and durable airspaces after it.
    pub told_left : AreDeliveredPurged salt a (segment ∷ segments) batches → (b : Airspace) × IsPartlyPurged segment.until left b × AreDeliveredPurged salt b segments batches
    told_left told = subst (λ x. IfStopped x (AllStopped segments batches) ((b : Airspace) × IsPartlyPurged segment.until left b × AreDeliveredPurged salt b segments batches)) first_goes told.1

    pub kept_left : (c : Airspace) → MayHavePersistedPurged salt a (segment ∷ segments) batches c → (b : Airspace) × IsPartlyPurged segment.until left b × MayHavePersistedPurged salt b segments batches c
    kept_left c kept = subst (λ x. IfStopped x (MayHavePersisted salt a segment.batches c) ((b : Airspace) × IsPartlyPurged segment.until left b × MayHavePersistedPurged salt b segments batches c)) first_goes kept.1

    -- The replies in the segment, and in what follows.
    told_more : delivered_replies (all_delivered segment.batches) ≡ replies_of salt a (answered_of segment.batches) → delivered_replies (all_delivered_in segments batches) ≡ replies_of salt left (answered_in segments batches)
        → delivered_replies (all_delivered_in (segment ∷ segments) batches) ≡ replies_of salt a (answered_in (segment ∷ segments) batches)
    told_more = policy_then salt a (all_timed segment.batches) (all_delivered segment.batches) (all_timed_in segments batches) (all_delivered_in segments batches) (even_all segment.batches) first_goes

    pub left_more : airspace_after salt left (answered_in segments batches) ≡ airspace_after salt a (answered_in (segment ∷ segments) batches)
    left_more = airspace_then salt a (all_timed segment.batches) (all_delivered segment.batches) (all_timed_in segments batches) (all_delivered_in segments batches) (even_all segment.batches) first_goes

-- The replies over a partly purged airspace are those over the whole one.
told_since : (until : ℕ) (salt : List ℕ) (segments : List Segment) (batches : List Batch) (a b : Airspace) → IsAirspace a → IsPartlyPurged until a b → has_stopped (all_delivered_in segments batches) ≡ false → LookAheadSince until salt a segments batches
    → AreDeliveredPurged salt b segments batches → delivered_replies (all_delivered_in segments batches) ≡ replies_of salt a (answered_in segments batches)
told_since until salt [] batches a b proper part goes look told = told.replies ∙ (run_unseen until salt (answered_of batches) a b proper part look).0
told_since until salt (segment ∷ segments) batches a b proper part goes look told =
    let run = run_unseen until salt (answered_of segment.batches) a b proper part look.0 in
    let purged = told_left salt segment segments batches goes b told in
    let after : Airspace → Airspace = λ x. airspace_after_batches salt x segment.batches in
    told_more salt segment segments batches goes a (told.0.replies ∙ run.0)
    (told_since (max until segment.until) salt segments batches (after a) purged.0 (after_proper salt a (answered_of segment.batches) proper) (partly_then until segment.until (after a) (after b) purged.0 run.1 purged.1)
    (others_go salt segment segments batches goes) look.1 purged.2)

kept_since : (until last : ℕ) (salt : List ℕ) (segments : List Segment) (batches : List Batch) (a b c : Airspace) → until ≤ last → PurgedBy last segments → IsAirspace a → IsPartlyPurged until a b → has_stopped (all_delivered_in segments batches) ≡ false
    → LookAheadSince until salt a segments batches → MayHavePersistedPurged salt b segments batches c → IsPartlyPurged last (airspace_after salt a (answered_in segments batches)) c
kept_since until last salt [] batches a b c within by proper part goes look kept =
    partly_later until last (airspace_after_batches salt a batches) c within
    (subst (IsPartlyPurged until (airspace_after_batches salt a batches)) (sym (kept_all salt b batches c goes kept)) (run_unseen until salt (answered_of batches) a b proper part look).1)
kept_since until last salt (segment ∷ segments) batches a b c within by proper part goes look kept =
    let run = run_unseen until salt (answered_of segment.batches) a b proper part look.0 in
    let purged = kept_left salt segment segments batches goes b c kept in
    let after : Airspace → Airspace = λ x. airspace_after_batches salt x segment.batches in
    let first : segment.until ≤ last = by.0 in
    subst (λ (x : Airspace). IsPartlyPurged last x c) (left_more salt segment segments batches goes a)
    (kept_since (max until segment.until) last salt segments batches (after a) purged.0 c (omega arith) by.1 (after_proper salt a (answered_of segment.batches) proper) (partly_then until segment.until (after a) (after b) purged.0 run.1 purged.1)
    (others_go salt segment segments batches goes) look.1 purged.2)

-- Before the first segment there was no purge.
told_unseen : (salt : List ℕ) (segments : List Segment) (batches : List Batch) (a : Airspace) → IsAirspace a → has_stopped (all_delivered_in segments batches) ≡ false → LookAheadOncePurged salt a segments batches → AreDeliveredPurged salt a segments batches
    → delivered_replies (all_delivered_in segments batches) ≡ replies_of salt a (answered_in segments batches)
told_unseen salt [] batches a proper goes look told = told.replies
told_unseen salt (segment ∷ segments) batches a proper goes look told =
    let purged = told_left salt segment segments batches goes a told in
    told_more salt segment segments batches goes a told.0.replies
    (told_since segment.until salt segments batches (airspace_after_batches salt a segment.batches) purged.0 (after_proper salt a (answered_of segment.batches) proper) purged.1 (others_go salt segment segments batches goes) look purged.2)

kept_unseen : (last : ℕ) (salt : List ℕ) (segments : List Segment) (batches : List Batch) (a c : Airspace) → PurgedBy last segments → IsAirspace a → has_stopped (all_delivered_in segments batches) ≡ false → LookAheadOncePurged salt a segments batches
    → MayHavePersistedPurged salt a segments batches c → IsPartlyPurged last (airspace_after salt a (answered_in segments batches)) c
kept_unseen last salt [] batches a c by proper goes look kept =
    subst (IsPartlyPurged last (airspace_after_batches salt a batches)) (sym (kept_all salt a batches c goes kept)) (chunks_make.nothing last (airspace_after_batches salt a batches))
kept_unseen last salt (segment ∷ segments) batches a c by proper goes look kept =
    let purged = kept_left salt segment segments batches goes a c kept in
    subst (λ (x : Airspace). IsPartlyPurged last x c) (left_more salt segment segments batches goes a)
    (kept_since segment.until last salt segments batches (airspace_after_batches salt a segment.batches) purged.0 c by.0 by.1 (after_proper salt a (answered_of segment.batches) proper) purged.1 (others_go salt segment segments batches goes) look purged.2)

pub segments_unseen : {S : Type 0} (k : settles.Ghosts S) → SegmentsAreInvisible k
segments_unseen k salt a segments batches new proper runs goes look = record {
  told = told_unseen salt segments batches a proper goes look runs.told;
  kept = λ until b by held. kept_unseen until salt segments batches a b by proper goes look (runs.kept b held);
}

-- ---- one time for all purges

look_since : (until last : ℕ) (salt : List ℕ) (segments : List Segment) (batches : List Batch) (a : Airspace) → until ≤ last → PurgedBy last segments → has_stopped (all_delivered_in segments batches) ≡ false → AllLookAhead last salt (answered_in segments batches) a → LookAheadSince until salt a segments batches
look_since until last salt [] batches a within by goes look = all_earlier until last salt (answered_of batches) a within look
look_since until last salt (segment ∷ segments) batches a within by goes look =
    let answered = answered_then (all_timed segment.batches) (all_delivered segment.batches) (all_timed_in segments batches) (all_delivered_in segments batches) (even_all segment.batches) (first_goes salt segment segments batches goes) in
    let parts = all_split last salt (answered_of segment.batches) (answered_in segments batches) a (subst (λ (cs : List TimedCall). AllLookAhead last salt cs a) answered look) in
    let first : segment.until ≤ last = by.0 in (
      all_earlier until last salt (answered_of segment.batches) a within parts.0,
      look_since (max until segment.until) last salt segments batches (airspace_after_batches salt a segment.batches) (omega arith) by.1 (others_go salt segment segments batches goes) parts.1,
    )

pub one_moment : OneMomentIsEnough
one_moment until salt a segment segments batches by goes look = look_since segment.until until salt segments batches (airspace_after_batches salt a segment.batches) by.0 by.1 goes look
