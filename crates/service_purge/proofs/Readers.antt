-- Lemmas: calls that change nothing may look back without disturbing those that look ahead.
use Rattle.std.specs.Prelude.{◌≡◌, ◌⊎◌, ◌≤◌, ℕ, Bool, true, false, List, [], ◌∷◌, ◌++◌, length, Option, Some, None, refl}
use Rattle.std.proofs.Common.{arith, inl, inr, sym, ap, ◌∙◌, subst}
use Rattle.std.proofs.lemmas.Bool.{false≢true}
use Rattle.entity_core.specs.Airspace.{Airspace, IsAirspace}
use Rattle.entity_core.specs.declared.entity.Entity.{Entity}
use Rattle.entity_core.specs.declared.subscription.Sub.{Sub}
use Rattle.entity_purge.specs.Purge.{IsPartlyPurged}
use Rattle.entity_purge.proofs.Chunks.{chunks_make}
use Rattle.policy_core.specs.declared.scope.Caller.{Caller}
use Rattle.policy_core.specs.declared.call.Call.{Call}
use Rattle.policy_core.specs.declared.call.Operation.{Operation}
use Rattle.policy_core.specs.declared.call.Operation.TheVariants.{NoRoute, NoMethod, Malformed, Query, Read, Create, Update, Delete, ReadAvail, SetAvail, QuerySub, ReadSub, CreateSub, UpdateSub, DeleteSub}
use Rattle.policy_core.specs.declared.rule.Rule.{Rule}
use Rattle.policy_core.specs.Policy.{first_broken}
use Rattle.std.specs.FinMap.{get}
use Rattle.space_core.specs.declared.group_commit.GroupCommit as settles
use Rattle.service_step.specs.declared.reply.Reply.{Reply}
use Rattle.service_step.specs.declared.reply.Reply.TheVariants.{Done, Denied, Fault, Stopped}
use Rattle.service_step.specs.Step.{effect, read_effect, read_sub_effect, step, step_by}
use Rattle.service_step.proofs.Preserves.{steps_keep}
use Rattle.service_calls.specs.Batches.{Batch, all_timed, all_delivered}
use Rattle.service_calls.specs.Run.{TimedCall, airspace_after, has_stopped, replies_of, delivered_replies}
use Rattle.service_calls.specs.Purged.{AreDeliveredPurged, MayHavePersistedPurged, Segment, airspace_after_batches, all_delivered_in}
use Rattle.service_calls.proofs.Joined.{answered_then, replies_then, told_then}
use Rattle.service_calls.proofs.BatchLaws.{kept_all}
use Rattle.service_purge.specs.Ahead.{AgreeAhead, AllReadOrLookAhead, LooksAhead, ReadersDoNotDisturb, only_reads}
use Rattle.service_purge.specs.Segments.{PurgedBy, ReadersMayLookBack, all_timed_in, answered_in, answered_of}
use Rattle.service_purge.proofs.Runs.{one_part, one_unseen}
use Rattle.service_purge.proofs.Unseen.{after_proper, even_all, first_goes, kept_left, left_more, others_go, partly_later, told_left}

-- ---- calls that change nothing

read_stays : (a : Airspace) (uss : List ℕ) (e : Option Entity) → (read_effect a uss e).0 ≡ a
read_stays a uss None = refl
read_stays a uss (Some e) = refl

read_sub_stays : (a : Airspace) (s : Option Sub) → (read_sub_effect a s).0 ≡ a
read_sub_stays a None = refl
read_sub_stays a (Some s) = refl

effect_stays : (salt : List ℕ) (a : Airspace) (caller : Option Caller) (op : Operation) → only_reads op ≡ true → (effect salt a caller op).0 ≡ a
effect_stays salt a None op reads = refl
effect_stays salt a (Some caller) NoRoute reads = refl
effect_stays salt a (Some caller) NoMethod reads = refl
effect_stays salt a (Some caller) (Malformed kind) reads = refl
effect_stays salt a (Some caller) (Query kind area) reads = refl
effect_stays salt a (Some caller) (Read kind id) reads = read_stays a caller.uss (get a.entities (kind, id))
effect_stays salt a (Some caller) (Create id put) reads = absurd (false≢true reads)
effect_stays salt a (Some caller) (Update id ovn put) reads = absurd (false≢true reads)
effect_stays salt a (Some caller) (Delete kind id ovn) reads = absurd (false≢true reads)
effect_stays salt a (Some caller) (ReadAvail uss) reads = refl
effect_stays salt a (Some caller) (SetAvail uss old availability) reads = absurd (false≢true reads)
effect_stays salt a (Some caller) (QuerySub area) reads = refl
effect_stays salt a (Some caller) (ReadSub id) reads = read_sub_stays a (get a.subscriptions id)
effect_stays salt a (Some caller) (CreateSub id put) reads = absurd (false≢true reads)
effect_stays salt a (Some caller) (UpdateSub id version put) reads = absurd (false≢true reads)
effect_stays salt a (Some caller) (DeleteSub id version) reads = absurd (false≢true reads)

step_by_stays : (salt : List ℕ) (a : Airspace) (c : Call) (r : Option Rule) → only_reads c.op ≡ true → (step_by salt a c r).0 ≡ a
step_by_stays salt a c None reads = effect_stays salt a c.caller c.op reads
step_by_stays salt a c (Some p) reads = refl

step_stays : (salt : List ℕ) (a : Airspace) (t : ℕ) (c : Call) → only_reads c.op ≡ true → (step salt a t c).0 ≡ a
unfolding step
step_stays salt a t c reads = step_by_stays salt a c (first_broken a t c) reads

-- ---- lists of calls

step_part : (until : ℕ) (salt : List ℕ) (a b : Airspace) (t : ℕ) (c : Call) → IsPartlyPurged until a b → (only_reads c.op ≡ true) ⊎ LooksAhead until a c → IsPartlyPurged until (step salt a t c).0 (step salt b t c).0
step_part until salt a b t c part (inl reads) =
    subst (λ (x : Airspace). IsPartlyPurged until x (step salt b t c).0) (sym (step_stays salt a t c reads))
    (subst (λ (y : Airspace). IsPartlyPurged until a y) (sym (step_stays salt b t c reads)) part)
step_part until salt a b t c part (inr look) = one_part until salt a b t c part look

pub readers : ReadersDoNotDisturb
readers until salt [] a b proper part all = ((refl, refl), part)
readers until salt (c ∷ cs) a b proper part all =
    let rest = readers until salt cs (step salt a c.0 c.1).0 (step salt b c.0 c.1).0 (steps_keep salt a c.0 c.1 proper) (step_part until salt a b c.0 c.1 part all.0) all.1 in
    ((one_unseen until salt a b c.0 c.1 proper part, rest.0), rest.1)

-- ---- lists after others

all_split : (until : ℕ) (salt : List ℕ) (cs ds : List TimedCall) (a : Airspace) → AllReadOrLookAhead until salt (cs ++ ds) a → AllReadOrLookAhead until salt cs a × AllReadOrLookAhead until salt ds (airspace_after salt a cs)
all_split until salt [] ds a all = (tt, all)
all_split until salt (c ∷ cs) ds a all =
    let rest = all_split until salt cs ds (step salt a c.0 c.1).0 all.1 in
    ((all.0, rest.0), rest.1)

agree_then : (until : ℕ) (salt : List ℕ) (cs ds : List TimedCall) (a : Airspace) (rs rs' qs qs' : List Reply) → AgreeAhead until salt a cs rs qs → AgreeAhead until salt (airspace_after salt a cs) ds rs' qs' → AgreeAhead until salt a (cs ++ ds) (rs ++ rs') (qs ++ qs')
agree_then until salt [] ds a rs rs' qs qs' one two =
    subst (λ (x : List Reply). AgreeAhead until salt a ds (x ++ rs') (qs ++ qs')) (sym one.0)
    (subst (λ (x : List Reply). AgreeAhead until salt a ds rs' (x ++ qs')) (sym one.1) two)
agree_then until salt (c ∷ cs) ds a [] rs' qs qs' one two = absurd one
agree_then until salt (c ∷ cs) ds a (r ∷ rs) rs' [] qs' one two = absurd one
agree_then until salt (c ∷ cs) ds a (r ∷ rs) rs' (q ∷ qs) qs' one two = (one.0, agree_then until salt cs ds (step salt a c.0 c.1).0 rs rs' qs qs' one.1 two)

-- ---- segments

module _ (until : ℕ) (salt : List ℕ) where
  -- Replies that agree with those of the policy to two lists of calls, as one list.
  agree_joined : (cs cs' all : List TimedCall) (a : Airspace) (rs rs' told : List Reply) → all ≡ cs ++ cs' → told ≡ rs ++ rs' → AgreeAhead until salt a cs rs (replies_of salt a cs)
      → AgreeAhead until salt (airspace_after salt a cs) cs' rs' (replies_of salt (airspace_after salt a cs) cs') → AgreeAhead until salt a all told (replies_of salt a all)
  agree_joined cs cs' all a rs rs' told is delivered one two =
      subst (λ (x : List TimedCall). AgreeAhead until salt a x told (replies_of salt a x)) (sym is)
      (subst (λ (x : List Reply). AgreeAhead until salt a (cs ++ cs') x (replies_of salt a (cs ++ cs'))) (sym delivered)
      (subst (λ (x : List Reply). AgreeAhead until salt a (cs ++ cs') (rs ++ rs') x) (sym (replies_then salt a cs cs'))
      (agree_then until salt cs cs' a rs rs' (replies_of salt a cs) (replies_of salt (airspace_after salt a cs) cs') one two)))

  module _ (segment : Segment) (segments : List Segment) (batches : List Batch) (goes : has_stopped (all_delivered_in (segment ∷ segments) batches) ≡ false) where
    answered_split : answered_in (segment ∷ segments) batches ≡ answered_of segment.batches ++ answered_in segments batches
    answered_split = answered_then (all_timed segment.batches) (all_delivered segment.batches) (all_timed_in segments batches) (all_delivered_in segments batches) (even_all segment.batches) (first_goes salt segment segments batches goes)

    delivered_split : delivered_replies (all_delivered_in (segment ∷ segments) batches) ≡ delivered_replies (all_delivered segment.batches) ++ delivered_replies (all_delivered_in segments batches)
    delivered_split = told_then (all_delivered segment.batches) (all_delivered_in segments batches) (first_goes salt segment segments batches goes)

    look_split : (a : Airspace) → AllReadOrLookAhead until salt (answered_in (segment ∷ segments) batches) a → AllReadOrLookAhead until salt (answered_of segment.batches) a × AllReadOrLookAhead until salt (answered_in segments batches) (airspace_after_batches salt a segment.batches)
    look_split a look = all_split until salt (answered_of segment.batches) (answered_in segments batches) a (subst (λ (cs : List TimedCall). AllReadOrLookAhead until salt cs a) answered_split look)

    -- The airspace that a purge left is partly purged up to `until`.
    left_part : (a b c : Airspace) → segment.until ≤ until → IsPartlyPurged until (airspace_after_batches salt a segment.batches) (airspace_after_batches salt b segment.batches) → IsPartlyPurged segment.until (airspace_after_batches salt b segment.batches) c
        → IsPartlyPurged until (airspace_after_batches salt a segment.batches) c
    left_part a b c within part purged =
        (chunks_make.more until (airspace_after_batches salt a segment.batches) (airspace_after_batches salt b segment.batches) part).further c (partly_later segment.until until (airspace_after_batches salt b segment.batches) c within purged)

  told_since : (segments : List Segment) (batches : List Batch) (a b : Airspace) → PurgedBy until segments → IsAirspace a → IsPartlyPurged until a b → has_stopped (all_delivered_in segments batches) ≡ false → AllReadOrLookAhead until salt (answered_in segments batches) a → AreDeliveredPurged salt b segments batches
      → AgreeAhead until salt a (answered_in segments batches) (delivered_replies (all_delivered_in segments batches)) (replies_of salt a (answered_in segments batches))
  told_since [] batches a b by proper part goes look told =
      subst (λ (x : List Reply). AgreeAhead until salt a (answered_of batches) x (replies_of salt a (answered_of batches))) (sym told.replies) (readers until salt (answered_of batches) a b proper part look).0
  told_since (segment ∷ segments) batches a b by proper part goes look told =
      let looks = look_split segment segments batches goes a look in
      let run = readers until salt (answered_of segment.batches) a b proper part looks.0 in
      let purged = told_left salt segment segments batches goes b told in
      let rest = told_since segments batches (airspace_after_batches salt a segment.batches) purged.0 by.1 (after_proper salt a (answered_of segment.batches) proper) (left_part segment segments batches goes a b purged.0 by.0 run.1 purged.1) (others_go salt segment segments batches goes) looks.1 purged.2 in
      agree_joined (answered_of segment.batches) (answered_in segments batches) (answered_in (segment ∷ segments) batches) a (delivered_replies (all_delivered segment.batches)) (delivered_replies (all_delivered_in segments batches)) _ (answered_split segment segments batches goes) (delivered_split segment segments batches goes)
      (subst (λ (x : List Reply). AgreeAhead until salt a (answered_of segment.batches) x (replies_of salt a (answered_of segment.batches))) (sym told.0.replies) run.0) rest

  kept_since : (segments : List Segment) (batches : List Batch) (a b c : Airspace) → PurgedBy until segments → IsAirspace a → IsPartlyPurged until a b → has_stopped (all_delivered_in segments batches) ≡ false → AllReadOrLookAhead until salt (answered_in segments batches) a
      → MayHavePersistedPurged salt b segments batches c → IsPartlyPurged until (airspace_after salt a (answered_in segments batches)) c
  kept_since [] batches a b c by proper part goes look kept =
      subst (IsPartlyPurged until (airspace_after_batches salt a batches)) (sym (kept_all salt b batches c goes kept)) (readers until salt (answered_of batches) a b proper part look).1
  kept_since (segment ∷ segments) batches a b c by proper part goes look kept =
      let looks = look_split segment segments batches goes a look in
      let run = readers until salt (answered_of segment.batches) a b proper part looks.0 in
      let purged = kept_left salt segment segments batches goes b c kept in
      subst (λ (x : Airspace). IsPartlyPurged until x c) (left_more salt segment segments batches goes a)
      (kept_since segments batches (airspace_after_batches salt a segment.batches) purged.0 c by.1 (after_proper salt a (answered_of segment.batches) proper) (left_part segment segments batches goes a b purged.0 by.0 run.1 purged.1) (others_go salt segment segments batches goes) looks.1 purged.2)

pub readers_look_back : {S : Type 0} (k : settles.Ghosts S) → ReadersMayLookBack k
readers_look_back k until salt a segment segments batches new proper runs goes by look =
    let left = airspace_after_batches salt a segment.batches in
    let whole = after_proper salt a (answered_of segment.batches) proper in
    let purged = told_left salt segment segments batches goes a runs.told in
    record {
      first = runs.told.0.replies;
      told = told_since until salt segments batches left purged.0 by.1 whole (partly_later segment.until until left purged.0 by.0 purged.1) (others_go salt segment segments batches goes) look purged.2;
      kept = λ b held.
          let kept = kept_left salt segment segments batches goes a b (runs.kept b held) in
          subst (λ (x : Airspace). IsPartlyPurged until x b) (left_more salt segment segments batches goes a)
          (kept_since until salt segments batches left kept.0 b by.1 whole (partly_later segment.until until left kept.0 by.0 kept.1) (others_go salt segment segments batches goes) look kept.2);
    }
