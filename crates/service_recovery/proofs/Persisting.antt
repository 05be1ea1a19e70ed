-- Proofs about what may be durable of batches and segments.
use Rattle.std.specs.Prelude.{◌≡◌, ◌↔◌, ◌∷◌, ℕ, List, [], ◌++◌, All, Ok, length, map, true, false, refl}
use Rattle.std.specs.List.{AllByRecursion}
use Rattle.std.proofs.Common.{inl, inr, sym, ap, append-nil, arith, subst, ◌∙◌}
use Rattle.std.proofs.lemmas.List.Concat.{flat_map-append}
use Rattle.entity_core.specs.Airspace.{Airspace}
use Rattle.entity_purge.specs.Purge.{IsPartlyPurged}
use Rattle.entity_purge.proofs.Chunks.{chunks_make}
use Rattle.service_step.specs.Step.{step}
use Rattle.service_step.specs.declared.reply.Reply.{Reply}
use Rattle.service_step.specs.declared.reply.Reply.TheVariants.{Done, Denied, Fault, Stopped}
use Rattle.service_calls.specs.Batches.{IfStopped, CallRecord, MayHavePersisted, MayHaveLeft, Batch, StayStoppedIn, airspace_of, all_timed, all_delivered, timed_in, replies_delivered, delivered_reply, uncommitted}
use Rattle.service_calls.specs.Run.{MayHaveStepped, TimedCall, airspace_after, answered_calls, delivered_replies, has_stopped, replies_of}
use Rattle.service_calls.specs.Purged.{AllStopped, AreDeliveredAndDurable, AreTold, MayHavePersistedPurged, Segment, airspace_after_batches, all_delivered_in}
use Rattle.service_calls.proofs.InBatches.{even_in}
use Rattle.service_calls.proofs.Joined.{airspace_then, goes_first, stops_then}
use Rattle.service_recovery.specs.Life.{AreEmpty, IsExpectedAfter, alone, made_at_once}

-- A batch without pending changes may be durable exactly if its calls may have been stepped.
pub alone_is_stepped : (salt : List ℕ) (a b : Airspace) (cs : List TimedCall) (rs : List Reply) → MayHavePersisted salt a (alone cs rs ∷ []) b ↔ MayHaveStepped salt a cs rs b
alone_is_stepped salt a b [] rs = ((λ is. is), (λ is. is))
alone_is_stepped salt a b (c ∷ cs) [] = ((λ is. is), (λ is. is))
alone_is_stepped salt a b (c ∷ cs) (Fault ∷ rs) = alone_is_stepped salt a b cs rs
alone_is_stepped salt a b (c ∷ cs) (Stopped ∷ rs) = ((λ is. elim is [ inl same ↦ inl same | inr may ↦ may ]), (λ may. inr may))
alone_is_stepped salt a b (c ∷ cs) (Done x ∷ rs) = alone_is_stepped salt (step salt a c.0 c.1).0 b cs rs
alone_is_stepped salt a b (c ∷ cs) (Denied p m ∷ rs) = alone_is_stepped salt (step salt a c.0 c.1).0 b cs rs

-- An open batch without a call leaves nothing.
pub without_empty : (salt : List ℕ) (a b : Airspace) (batches : List Batch) → MayHavePersisted salt a (batches ++ uncommitted [] ∷ []) b → MayHavePersisted salt a batches b
without_empty salt a b [] may = may
without_empty salt a b (r ∷ rs) may =
    let next = airspace_of salt a r in
    elim (has_stopped (replies_delivered r)) as (λ x. IfStopped x (MayHaveLeft salt a r b) (MayHavePersisted salt next (rs ++ uncommitted [] ∷ []) b) → IfStopped x (MayHaveLeft salt a r b) (MayHavePersisted salt next rs b)) [
      | true ↦ λ left. left
      | false ↦ λ kept. without_empty salt next b rs kept
    ] may

pub due_unstopped : (salt : List ℕ) (a b : Airspace) (batches : List Batch) → has_stopped (all_delivered batches) ≡ false → MayHavePersisted salt a batches b
    → b ≡ airspace_after salt a (answered_calls (all_timed batches) (all_delivered batches))
due_unstopped salt a b [] goes is = is
due_unstopped salt a b (r ∷ rs) goes is =
    let next = airspace_of salt a r in
    let first = goes_first (replies_delivered r) (all_delivered rs) goes in
    let rest : MayHavePersisted salt next rs b = subst (λ x. IfStopped x (MayHaveLeft salt a r b) (MayHavePersisted salt next rs b)) first is in
    due_unstopped salt next b rs (sym (stops_then (replies_delivered r) (all_delivered rs) first) ∙ goes) rest ∙ airspace_then salt a (timed_in r) (replies_delivered r) (all_timed rs) (all_delivered rs) (even_in r) first

-- ---- segments

pub without_empty_purged : (salt : List ℕ) (a b : Airspace) (segments : List Segment) (batches : List Batch) → MayHavePersistedPurged salt a segments (batches ++ uncommitted [] ∷ []) b → MayHavePersistedPurged salt a segments batches b
without_empty_purged salt a b [] batches may = without_empty salt a b batches may
without_empty_purged salt a b (s ∷ ss) batches may =
    let after = airspace_after_batches salt a s.batches in (
      tt,
      elim (has_stopped (all_delivered s.batches)) as (λ x. IfStopped x (MayHavePersisted salt a s.batches b) ((c : Airspace) × IsPartlyPurged s.until after c × MayHavePersistedPurged salt c ss (batches ++ uncommitted [] ∷ []) b)
          → IfStopped x (MayHavePersisted salt a s.batches b) ((c : Airspace) × IsPartlyPurged s.until after c × MayHavePersistedPurged salt c ss batches b)) [
            | true ↦ λ left. left
            | false ↦ λ more. (more.0, more.1, without_empty_purged salt more.0 b ss batches more.2)
          ] may.1,
    )

-- The durable airspace is one that the delivered replies allow.
pub durable : (salt : List ℕ) (a b : Airspace) (segments : List Segment) (batches : List Batch) → AreDeliveredAndDurable salt a segments batches b → MayHavePersistedPurged salt a segments batches b
durable salt a b [] batches both = both.1
durable salt a b (s ∷ ss) batches both =
    let after = airspace_after_batches salt a s.batches in (
      tt,
      elim (has_stopped (all_delivered s.batches)) as (λ x. IfStopped x (AllStopped ss batches × MayHavePersisted salt a s.batches b) ((c : Airspace) × IsPartlyPurged s.until after c × AreDeliveredAndDurable salt c ss batches b)
          → IfStopped x (MayHavePersisted salt a s.batches b) ((c : Airspace) × IsPartlyPurged s.until after c × MayHavePersistedPurged salt c ss batches b)) [
            | true ↦ λ left. left.1
            | false ↦ λ more. (more.0, more.1, durable salt more.0 b ss batches more.2)
          ] both.1,
    )

-- An open batch without a call delivers nothing.
same_delivered : (batches : List Batch) → all_delivered (batches ++ uncommitted [] ∷ []) ≡ all_delivered batches
same_delivered batches = flat_map-append replies_delivered batches (uncommitted [] ∷ []) ∙ append-nil (all_delivered batches)

same_timed : (batches : List Batch) → all_timed (batches ++ uncommitted [] ∷ []) ≡ all_timed batches
same_timed batches = flat_map-append timed_in batches (uncommitted [] ∷ []) ∙ append-nil (all_timed batches)

same_delivered_in : (segments : List Segment) (batches : List Batch) → all_delivered_in segments (batches ++ uncommitted [] ∷ []) ≡ all_delivered_in segments batches
same_delivered_in [] batches = same_delivered batches
same_delivered_in (s ∷ ss) batches = ap (λ (v : List Reply). all_delivered s.batches ++ v) (same_delivered_in ss batches)

stay_stopped : (batches : List Batch) → StayStoppedIn (batches ++ uncommitted [] ∷ []) → StayStoppedIn batches
stay_stopped [] stay = tt
stay_stopped (r ∷ rs) stay =
    elim (has_stopped (replies_delivered r)) as (λ x. IfStopped x (All (λ v. v ≡ Stopped) (all_delivered (rs ++ uncommitted [] ∷ []))) (StayStoppedIn (rs ++ uncommitted [] ∷ []))
    → IfStopped x (All (λ v. v ≡ Stopped) (all_delivered rs)) (StayStoppedIn rs)) [
      | true ↦ λ all. subst (λ (v : List Reply). All (λ r. r ≡ Stopped) v) (same_delivered rs) all
      | false ↦ λ more. stay_stopped rs more
    ] stay

told_without_empty : (salt : List ℕ) (a : Airspace) (batches : List Batch) → AreTold salt a (batches ++ uncommitted [] ∷ []) → AreTold salt a batches
told_without_empty salt a batches told = record {
  replies = subst (λ (v : List TimedCall). delivered_replies (all_delivered batches) ≡ replies_of salt a (answered_calls v (all_delivered batches))) (same_timed batches)
      (subst (λ (v : List Reply). delivered_replies v ≡ replies_of salt a (answered_calls (all_timed (batches ++ uncommitted [] ∷ [])) v)) (same_delivered batches) told.replies);
  stopped = stay_stopped batches told.stopped;
}

pub both_without_empty : (salt : List ℕ) (a b : Airspace) (segments : List Segment) (batches : List Batch) → AreDeliveredAndDurable salt a segments (batches ++ uncommitted [] ∷ []) b → AreDeliveredAndDurable salt a segments batches b
both_without_empty salt a b [] batches both = (told_without_empty salt a batches both.0, without_empty salt a b batches both.1)
both_without_empty salt a b (s ∷ ss) batches both =
    let after = airspace_after_batches salt a s.batches in (
      both.0,
      elim (has_stopped (all_delivered s.batches)) as (λ x.
          IfStopped x (AllStopped ss (batches ++ uncommitted [] ∷ []) × MayHavePersisted salt a s.batches b) ((c : Airspace) × IsPartlyPurged s.until after c × AreDeliveredAndDurable salt c ss (batches ++ uncommitted [] ∷ []) b)
          → IfStopped x (AllStopped ss batches × MayHavePersisted salt a s.batches b) ((c : Airspace) × IsPartlyPurged s.until after c × AreDeliveredAndDurable salt c ss batches b)) [
            | true ↦ λ left. (subst (λ (v : List Reply). All (λ r. r ≡ Stopped) v) (same_delivered_in ss batches) left.0, left.1)
            | false ↦ λ more. (more.0, more.1, both_without_empty salt more.0 b ss batches more.2)
          ] both.1,
    )

-- A run without calls leaves the airspace.
pub unasked_comes : (salt : List ℕ) (a : Airspace) → AreDeliveredAndDurable salt a [] [] a
unasked_comes salt a = (record { replies = refl; stopped = tt }, refl)

-- ---- the batch of a space without pending changes

alone_delivered : (cs : List TimedCall) (rs : List Reply) → length rs ≡ length cs → map (delivered_reply (Ok tt)) (made_at_once cs rs) ≡ rs
alone_delivered [] [] same = refl
alone_delivered [] (r ∷ rs) same = absurd (omega (arith, same))
alone_delivered (c ∷ cs) [] same = refl
alone_delivered (c ∷ cs) (r ∷ rs) same = ap (λ (v : List Reply). r ∷ v) (alone_delivered cs rs (omega (arith, same)))

alone_timed : (cs : List TimedCall) (rs : List Reply) → length rs ≡ length cs → map (λ made. made.timed) (made_at_once cs rs) ≡ cs
alone_timed [] rs same = refl
alone_timed (c ∷ cs) [] same = absurd (omega (arith, same))
alone_timed (c ∷ cs) (r ∷ rs) same = ap (λ (v : List TimedCall). c ∷ v) (alone_timed cs rs (omega (arith, same)))

pub alone_is_told : (salt : List ℕ) (a : Airspace) (cs : List TimedCall) (rs : List Reply) → length rs ≡ length cs → delivered_replies rs ≡ replies_of salt a (answered_calls cs rs) → AreTold salt a (alone cs rs ∷ [])
alone_is_told salt a cs rs same replies =
    let delivered : all_delivered (alone cs rs ∷ []) ≡ rs = append-nil (replies_delivered (alone cs rs)) ∙ alone_delivered cs rs same in
    let timed : all_timed (alone cs rs ∷ []) ≡ cs = append-nil (timed_in (alone cs rs)) ∙ alone_timed cs rs same in
    record {
      replies = subst (λ (v : List TimedCall). delivered_replies (all_delivered (alone cs rs ∷ [])) ≡ replies_of salt a (answered_calls v (all_delivered (alone cs rs ∷ [])))) (sym timed)
          (subst (λ (v : List Reply). delivered_replies v ≡ replies_of salt a (answered_calls cs v)) (sym delivered) replies);
      stopped = elim (has_stopped (replies_delivered (alone cs rs))) as (λ x. IfStopped x (All (λ r. r ≡ Stopped) (all_delivered [])) (StayStoppedIn [])) [
        | true ↦ λ i d within. absurd (omega (arith, within))
        | false ↦ tt
      ];
    }

-- If no call of a segment returned `Stopped`, the next segments continue from its airspace, partly
-- purged.
going_on : (salt : List ℕ) (a b : Airspace) (s : Segment) (ss : List Segment) (batches : List Batch) → has_stopped (all_delivered s.batches) ≡ false → MayHavePersistedPurged salt a (s ∷ ss) batches b
    → (c : Airspace) × IsPartlyPurged s.until (airspace_after_batches salt a s.batches) c × MayHavePersistedPurged salt c ss batches b
going_on salt a b s ss batches goes may =
    subst (λ x. IfStopped x (MayHavePersisted salt a s.batches b) ((c : Airspace) × IsPartlyPurged s.until (airspace_after_batches salt a s.batches) c × MayHavePersistedPurged salt c ss batches b)) goes may.1

pub due_purged : (salt : List ℕ) (a b : Airspace) (segments : List Segment) (batches : List Batch) → has_stopped (all_delivered_in segments batches) ≡ false → MayHavePersistedPurged salt a segments batches b → IsExpectedAfter salt a segments batches b
due_purged salt a b [] batches goes is = due_unstopped salt a b batches goes is
due_purged salt a b (s ∷ ss) batches goes is =
    let first = goes_first (all_delivered s.batches) (all_delivered_in ss batches) goes in
    let more = going_on salt a b s ss batches first is in
    (more.0, more.1, due_purged salt more.0 b ss batches (sym (stops_then (all_delivered s.batches) (all_delivered_in ss batches) first) ∙ goes) more.2)

-- ---- batches without calls

none_told : (batches : List Batch) → AreEmpty batches → all_delivered batches ≡ []
none_told [] empty = refl
none_told (r ∷ rs) empty = subst (λ (calls : List CallRecord). map (delivered_reply r.settled) calls ++ all_delivered rs ≡ []) (sym empty.0) (none_told rs empty.1)

none_timed : (batches : List Batch) → AreEmpty batches → all_timed batches ≡ []
none_timed [] empty = refl
none_timed (r ∷ rs) empty = subst (λ (calls : List CallRecord). map (λ made. made.timed) calls ++ all_timed rs ≡ []) (sym empty.0) (none_timed rs empty.1)

goes_empty : (batches : List Batch) → AreEmpty batches → has_stopped (all_delivered batches) ≡ false
goes_empty batches empty = subst (λ (rs : List Reply). has_stopped rs ≡ false) (sym (none_told batches empty)) refl

same_empty : (salt : List ℕ) (a : Airspace) (batches : List Batch) → AreEmpty batches → airspace_after_batches salt a batches ≡ a
same_empty salt a batches empty = subst (λ (cs : List TimedCall). airspace_after salt a (answered_calls cs (all_delivered batches)) ≡ a) (sym (none_timed batches empty)) refl

pub only_purged : (until : ℕ) (salt : List ℕ) (a b : Airspace) (segments : List Segment) (batches : List Batch) → AllByRecursion (λ s. AreEmpty s.batches × (s.until ≡ until)) segments → AreEmpty batches → MayHavePersistedPurged salt a segments batches b → IsPartlyPurged until a b
only_purged until salt a b [] batches none empty is =
    subst (IsPartlyPurged until a) (sym (due_unstopped salt a b batches (goes_empty batches empty) is ∙ same_empty salt a batches empty)) (chunks_make.nothing until a)
only_purged until salt a b (s ∷ ss) batches none empty is =
    let more = going_on salt a b s ss batches (goes_empty s.batches none.0.0) is in
    let one : IsPartlyPurged until a more.0 = subst (λ (u : ℕ). IsPartlyPurged u a more.0) none.0.1 (subst (λ (x : Airspace). IsPartlyPurged s.until x more.0) (same_empty salt a s.batches none.0.0) more.1) in
    (chunks_make.more until a more.0 one).further b (only_purged until salt more.0 b ss batches none.1 empty more.2)
