-- Lemmas: the delivered replies and the durable airspace over batches with purges between them.
use Rattle.std.specs.Prelude.{◌≡◌, ◌||◌, ℕ, Bool, true, false, All, List, [], ◌∷◌, ◌++◌, Result, Ok, Err, refl}
use Rattle.std.proofs.Common.{sym, ap, ◌∙◌, subst}
use Rattle.std.proofs.lemmas.Bool.{false≢true}
use Rattle.std.proofs.lemmas.List.Elements.{All-append, All-head, All-tail}
use Rattle.entity_core.specs.Airspace.{Airspace}
use Rattle.entity_purge.specs.Purge.{IsPartlyPurged}
use Rattle.entity_purge.proofs.Chunks.{chunks_make}
use Rattle.space_core.specs.declared.space.Space as spaces
use Rattle.space_core.specs.declared.group_commit.GroupCommit as settles
use Rattle.space_core.specs.declared.space.SpaceFault.{SpaceFault}
use Rattle.space_core.specs.declared.space.SpaceFault.TheVariants.{Broken, Unchanged}
use Rattle.space_core.specs.Space.{IsContent, is_broken_after}
use Rattle.service_step.specs.declared.reply.Reply.{Reply}
use Rattle.service_step.specs.declared.reply.Reply.TheVariants.{Stopped}
use Rattle.service_calls.specs.declared.service.Service.{Service}
use Rattle.service_calls.specs.Held.{is_shut, salt_of, space_of}
use Rattle.service_calls.specs.Run.{TimedCall, answered_calls, has_stopped, replies_of, delivered_replies}
use Rattle.service_calls.specs.Batches.{IfStopped, CallRecord, CalledInOrder, MadeBatches, MayHavePersisted, Batch, RunsInBatches, StayStoppedIn, all_timed, all_delivered, replies_delivered, uncommitted}
use Rattle.service_calls.specs.Purged.{AllStopped, AreTold, AreDeliveredAndDurable, AreDeliveredPurged, AskedInSegments, IsPurge, LeavesPartly, MadeSegments, MayHavePersistedPurged, RunsPurged, Segment, airspace_after_batches, all_delivered_in}
use Rattle.service_calls.proofs.InBatches.{Follows, Lawful, calls, calm_batches, follows_open, follows_batches, follows_these, held_quiet, sound_batches}
use Rattle.service_calls.proofs.Joined.{stops_then}
use Rattle.service_calls.proofs.BatchLaws.{kept_all}

-- ---- batches with only `Stopped` delivered

after_first : (rs qs : List Reply) → All (λ r. r ≡ Stopped) (rs ++ qs) → All (λ r. r ≡ Stopped) qs
after_first [] qs all = all
after_first (r ∷ rs) qs all = after_first rs qs (All-tail (λ r. r ≡ Stopped) r (rs ++ qs) all)

stopped_replies : (salt : List ℕ) (a : Airspace) (cs : List TimedCall) (rs : List Reply) → All (λ r. r ≡ Stopped) rs → delivered_replies rs ≡ replies_of salt a (answered_calls cs rs)
stopped_replies salt a [] [] all = refl
stopped_replies salt a (c ∷ cs) [] all = refl
stopped_replies salt a [] (r ∷ rs) all = subst (λ (x : Reply). delivered_replies (x ∷ rs) ≡ []) (sym (All-head (λ r. r ≡ Stopped) r rs all)) refl
stopped_replies salt a (c ∷ cs) (r ∷ rs) all =
    subst (λ (x : Reply). delivered_replies (x ∷ rs) ≡ replies_of salt a (answered_calls (c ∷ cs) (x ∷ rs))) (sym (All-head (λ r. r ≡ Stopped) r rs all)) refl

stopped_stay : (batches : List Batch) → All (λ r. r ≡ Stopped) (all_delivered batches) → StayStoppedIn batches
stopped_stay [] all = tt
stopped_stay (batch ∷ batches) all =
    let rest = after_first (replies_delivered batch) (all_delivered batches) all in
    elim (has_stopped (replies_delivered batch)) as (λ x. IfStopped x (All (λ r. r ≡ Stopped) (all_delivered batches)) (StayStoppedIn batches)) [
      | true ↦ rest
      | false ↦ stopped_stay batches rest
    ]

-- Such replies are those of the policy over any airspace.
stopped_told : (salt : List ℕ) (a : Airspace) (batches : List Batch) → All (λ r. r ≡ Stopped) (all_delivered batches) → AreTold salt a batches
stopped_told salt a batches all = record {
  replies = stopped_replies salt a (all_timed batches) (all_delivered batches) all;
  stopped = stopped_stay batches all;
}

-- If a service is shut only when its space is broken, this still holds after a call that can break
-- it.
broken_then : {T : Type 0} (result : Result T SpaceFault) (n b n' b' : Bool) → n' ≡ is_broken_after n result → b' ≡ is_broken_after b result → (n ≡ true → b ≡ true) → n' ≡ true → b' ≡ true
broken_then (Ok x) n b n' b' is so h t = so ∙ h (sym is ∙ t)
broken_then (Err Unchanged) n b n' b' is so h t = so ∙ h (sym is ∙ t)
broken_then (Err Broken) n b n' b' is so h t = so

-- A fact that follows from each value of a flag holds.
either : {P : Type 0} (x : Bool) → (x ≡ true → P) → (x ≡ false → P) → P
either true is not = is refl
either false is not = not refl

-- The durable airspace is one that these replies allow.
kept_of_both : (salt : List ℕ) (a : Airspace) (segments : List Segment) (batches : List Batch) (b : Airspace) → AreDeliveredAndDurable salt a segments batches b → MayHavePersistedPurged salt a segments batches b
kept_of_both salt a [] batches b both = both.1
kept_of_both salt a (segment ∷ segments) batches b both = (
  tt,
  elim (has_stopped (all_delivered segment.batches)) as (λ x. IfStopped x (AllStopped segments batches × MayHavePersisted salt a segment.batches b)
      ((c : Airspace) × IsPartlyPurged segment.until (airspace_after_batches salt a segment.batches) c × AreDeliveredAndDurable salt c segments batches b)
      → IfStopped x (MayHavePersisted salt a segment.batches b)
      ((c : Airspace) × IsPartlyPurged segment.until (airspace_after_batches salt a segment.batches) c × MayHavePersistedPurged salt c segments batches b)) [
        | true ↦ λ kept. kept.1
        | false ↦ λ more. (more.0, more.1, kept_of_both salt more.0 segments batches b more.2)
      ] both.1,
)

-- ---- one segment before others

module _ (salt : List ℕ) (a : Airspace) (segment : Segment) (segments : List Segment) (batches : List Batch) where
  -- In this segment some reply is `Stopped`.
  told_stop : has_stopped (all_delivered segment.batches) ≡ true → AreTold salt a segment.batches → AllStopped segments batches → AreDeliveredPurged salt a (segment ∷ segments) batches
  told_stop stops told others =
      (told, subst (λ (x : Bool). IfStopped x (AllStopped segments batches) ((b : Airspace) × IsPartlyPurged segment.until (airspace_after_batches salt a segment.batches) b × AreDeliveredPurged salt b segments batches)) (sym stops) others)

  both_stop : (after : Airspace) → has_stopped (all_delivered segment.batches) ≡ true → AreTold salt a segment.batches → AllStopped segments batches → MayHavePersisted salt a segment.batches after → AreDeliveredAndDurable salt a (segment ∷ segments) batches after
  both_stop after stops told others kept =
      (told, subst (λ (x : Bool). IfStopped x (AllStopped segments batches × MayHavePersisted salt a segment.batches after) ((b : Airspace) × IsPartlyPurged segment.until (airspace_after_batches salt a segment.batches) b × AreDeliveredAndDurable salt b segments batches after)) (sym stops) (others, kept))

  -- In this segment no reply is `Stopped`.
  told_go : (b : Airspace) → has_stopped (all_delivered segment.batches) ≡ false → AreTold salt a segment.batches → IsPartlyPurged segment.until (airspace_after_batches salt a segment.batches) b → AreDeliveredPurged salt b segments batches → AreDeliveredPurged salt a (segment ∷ segments) batches
  told_go b goes told partly then =
      (told, subst (λ (x : Bool). IfStopped x (AllStopped segments batches) ((b : Airspace) × IsPartlyPurged segment.until (airspace_after_batches salt a segment.batches) b × AreDeliveredPurged salt b segments batches)) (sym goes) (b, partly, then))

  both_go : (b after : Airspace) → has_stopped (all_delivered segment.batches) ≡ false → AreTold salt a segment.batches → IsPartlyPurged segment.until (airspace_after_batches salt a segment.batches) b → AreDeliveredAndDurable salt b segments batches after → AreDeliveredAndDurable salt a (segment ∷ segments) batches after
  both_go b after goes told partly then =
      (told, subst (λ (x : Bool). IfStopped x (AllStopped segments batches × MayHavePersisted salt a segment.batches after) ((b : Airspace) × IsPartlyPurged segment.until (airspace_after_batches salt a segment.batches) b × AreDeliveredAndDurable salt b segments batches after)) (sym goes) (b, partly, then))

module _ {S : Type 0} (g : spaces.Ghosts S) (k : settles.Ghosts S) (laws : Lawful g k) where
  -- ---- a shut service over a broken space without pending changes

  record IsOver (s : Service S) : Type 0 where
    shut : is_shut s ≡ true
    broken : g.is_broken (space_of s) ≡ true
    calm : k.is_pending (space_of s) ≡ false

  broken_calls : (old : Service S) (ms : List CallRecord) (mid : Service S) → CalledInOrder g k old ms mid → (is_shut old ≡ true → g.is_broken (space_of old) ≡ true) → is_shut mid ≡ true → g.is_broken (space_of mid) ≡ true
  broken_calls old ms mid made was is =
      let all = calls g k laws old ms mid made in
      either (is_shut old)
      (λ n. ap (λ (s : Service S). g.is_broken (space_of s)) (all.stays.shut n) ∙ was n)
      (λ n. all.breaks n ∙ ap (λ (x : Bool). x || g.is_broken (space_of old)) (sym (all.shuts n) ∙ is))

  broken_batches : (old : Service S) (batches : List Batch) (new : Service S) → MadeBatches g k old batches new → (is_shut old ≡ true → g.is_broken (space_of old) ≡ true) → is_shut new ≡ true → g.is_broken (space_of new) ≡ true
  broken_batches old [] new h was is = ap (λ (s : Service S). g.is_broken (space_of s)) h ∙ was (sym (ap (λ (s : Service S). is_shut s) h) ∙ is)
  broken_batches old (batch ∷ batches) new h was is =
      broken_batches h.1 batches new h.4
      (broken_then batch.settled (is_shut h.0) (g.is_broken (space_of h.0)) (is_shut h.1) (g.is_broken (space_of h.1)) h.3.shuts h.3.tells.breaks (broken_calls old batch.calls h.0 h.2 was))
      is

  salt_batches : (old : Service S) (batches : List Batch) (new : Service S) → MadeBatches g k old batches new → salt_of new ≡ salt_of old
  salt_batches old [] new h = ap (λ (s : Service S). salt_of s) h
  salt_batches old (batch ∷ batches) new h = salt_batches h.1 batches new h.4 ∙ (h.3.salt ∙ (calls g k laws old batch.calls h.0 h.2).stays.salt)

  -- ---- segments, and what follows them

  -- What holds for segments and batches from a service without pending changes, whether it is over
  -- or not.
  record Goes (s : Service S) (segments : List Segment) (batches : List Batch) (new : Service S) : Type 0 where
    live : (a : Airspace) → is_shut s ≡ false → IsContent g.holds (space_of s) a → RunsPurged k (salt_of s) a segments batches new
    others : IsOver s → AllStopped segments batches
    told : IsOver s → (salt : List ℕ) (a : Airspace) → AreDeliveredPurged salt a segments batches
    both : IsOver s → (salt : List ℕ) (a : Airspace) → AreDeliveredAndDurable salt a segments batches a
    ends : IsOver s → (is_shut new ≡ true) × ((b : Airspace) → k.persists (space_of new) b → k.persists (space_of s) b)

  -- No segment follows.
  goes_none : (s : Service S) (batches : List Batch) (new : Service S) → Follows g k laws s batches new → Goes s [] batches new
  goes_none s batches new follows = record {
    live = λ a n content.
        let runs = follows.live a n content in
        let told : AreTold (salt_of s) a batches = record { replies = runs.replies; stopped = runs.stopped } in
        record {
          told = told;
          goes = runs.goes;
          whole = λ is. (_, runs.whole is);
          kept = runs.kept;
          both = λ b held. (told, runs.kept b held);
        };
    others = λ over. follows.others over.shut over.broken;
    told = λ over salt a. stopped_told salt a batches (follows.others over.shut over.broken);
    both = λ over salt a. (stopped_told salt a batches (follows.others over.shut over.broken), follows.same over.shut over.broken salt a);
    ends = λ over. let ends = follows.ends over.shut over.broken in (ends.0, ends.2);
  }

  -- One more segment.
  module _ (old : Service S) (segment : Segment) (mid end : Service S) (most : ℕ) (result : Result ℕ SpaceFault) (segments : List Segment) (batches : List Batch) (new : Service S) (made : MadeBatches g k old segment.batches mid) (purge : IsPurge g k segment.until most mid end result) (calm : k.is_pending (space_of old) ≡ false) (sound : g.is_sound (space_of end)) (next : Goes end segments batches new) where
    follows : Follows g k laws old segment.batches mid
    follows = follows_these g k laws old segment.batches mid made calm (purge.sound sound)

    calm_mid : k.is_pending (space_of mid) ≡ false
    calm_mid = calm_batches g k laws old segment.batches mid made calm

    over_end : IsOver mid → IsOver end
    over_end over = subst IsOver (sym (purge.shut over.shut).0) over

    same_end : IsOver mid → (b : Airspace) → k.persists (space_of end) b → k.persists (space_of mid) b
    same_end over b held = subst (λ (s : Service S). k.persists (space_of s) b) (purge.shut over.shut).0 held

    -- The service was over before.
    module _ (over : IsOver old) where
      over_mid : IsOver mid
      over_mid = let ends = follows.ends over.shut over.broken in record { shut = ends.0; broken = ends.1; calm = calm_mid }

      over_told : All (λ r. r ≡ Stopped) (all_delivered segment.batches)
      over_told = follows.others over.shut over.broken

      told_over : (salt : List ℕ) (a : Airspace) → AreDeliveredPurged salt a (segment ∷ segments) batches
      told_over salt a =
          either (has_stopped (all_delivered segment.batches))
          (λ x. told_stop salt a segment segments batches x (stopped_told salt a segment.batches over_told) (next.others (over_end over_mid)))
          (λ x.
          let after = airspace_after_batches salt a segment.batches in
          told_go salt a segment segments batches after x (stopped_told salt a segment.batches over_told) (chunks_make.nothing segment.until after) (next.told (over_end over_mid) salt after))

      both_over : (salt : List ℕ) (a : Airspace) → AreDeliveredAndDurable salt a (segment ∷ segments) batches a
      both_over salt a =
          let kept = follows.same over.shut over.broken salt a in
          either (has_stopped (all_delivered segment.batches))
          (λ x. both_stop salt a segment segments batches a x (stopped_told salt a segment.batches over_told) (next.others (over_end over_mid)) kept)
          (λ x.
          both_go salt a segment segments batches a a x (stopped_told salt a segment.batches over_told)
          (subst (λ (b : Airspace). IsPartlyPurged segment.until b a) (kept_all salt a segment.batches a x kept) (chunks_make.nothing segment.until a))
          (next.both (over_end over_mid) salt a))

      ends_over : (is_shut new ≡ true) × ((b : Airspace) → k.persists (space_of new) b → k.persists (space_of old) b)
      ends_over =
          let ends = next.ends (over_end over_mid) in
          (ends.0, λ b held. (follows.ends over.shut over.broken).2 b (same_end over_mid b (ends.1 b held)))

    -- The service was not shut before.
    module _ (a : Airspace) (n : is_shut old ≡ false) (content : IsContent g.holds (space_of old) a) where
      runs : RunsInBatches k (salt_of old) a segment.batches mid
      runs = follows.live a n content

      told_first : AreTold (salt_of old) a segment.batches
      told_first = record { replies = runs.replies; stopped = runs.stopped }

      abbrev after : Airspace
      after = airspace_after_batches (salt_of old) a segment.batches

      over_shut : is_shut mid ≡ true → IsOver mid
      over_shut shut = record {
        shut = shut;
        broken = broken_batches old segment.batches mid made (λ x. absurd (false≢true (sym n ∙ x))) shut;
        calm = calm_mid;
      }

      -- The service is shut afterwards.
      run_over : is_shut new ≡ true → AreDeliveredPurged (salt_of old) a (segment ∷ segments) batches → ((b : Airspace) → k.persists (space_of new) b → AreDeliveredAndDurable (salt_of old) a (segment ∷ segments) batches b) → RunsPurged k (salt_of old) a (segment ∷ segments) batches new
      run_over shut told both = record {
        told = told;
        goes = λ x. absurd (false≢true (sym x ∙ shut));
        whole = λ x. absurd (false≢true (sym x ∙ shut));
        kept = λ b held. kept_of_both (salt_of old) a (segment ∷ segments) batches b (both b held);
        both = both;
      }

      -- Some reply was `Stopped`.
      live_stopped : has_stopped (all_delivered segment.batches) ≡ true → RunsPurged k (salt_of old) a (segment ∷ segments) batches new
      live_stopped stops =
          let over = over_shut (either (is_shut mid) (λ x. x) (λ x. absurd (false≢true (sym (runs.goes x) ∙ stops)))) in
          let ends = next.ends (over_end over) in
          let others = next.others (over_end over) in
          run_over ends.0 (told_stop (salt_of old) a segment segments batches stops told_first others)
          (λ b held. both_stop (salt_of old) a segment segments batches b stops told_first others (runs.kept b (same_end over b (ends.1 b held))))

      module _ (goes : has_stopped (all_delivered segment.batches) ≡ false) where
        -- No reply was `Stopped`, but the service is shut.
        live_over : is_shut mid ≡ true → RunsPurged k (salt_of old) a (segment ∷ segments) batches new
        live_over shut =
            let over = over_shut shut in
            let ends = next.ends (over_end over) in
            run_over ends.0 (told_go (salt_of old) a segment segments batches after goes told_first (chunks_make.nothing segment.until after) (next.told (over_end over) (salt_of old) after))
            (λ b held.
            let same = kept_all (salt_of old) a segment.batches b goes (runs.kept b (same_end over b (ends.1 b held))) in
            both_go (salt_of old) a segment segments batches b b goes told_first
            (subst (λ (x : Airspace). IsPartlyPurged segment.until x b) same (chunks_make.nothing segment.until b))
            (next.both (over_end over) (salt_of old) b))

        module _ (live : is_shut mid ≡ false) where
          held : IsContent g.holds (space_of mid) after
          held = held_quiet g k laws (space_of mid) after calm_mid (runs.whole live)

          -- The purge left one airspace.
          live_left : (b : Airspace) → is_shut end ≡ false → IsContent g.holds (space_of end) b → IsPartlyPurged segment.until after b → RunsPurged k (salt_of old) a (segment ∷ segments) batches new
          live_left b x there partly =
              let then : RunsPurged k (salt_of old) b segments batches new = subst (λ (salt : List ℕ). RunsPurged k salt b segments batches new) (purge.salt ∙ salt_batches old segment.batches mid made) (next.live b x there) in
              let both : (c : Airspace) → k.persists (space_of new) c → AreDeliveredAndDurable (salt_of old) a (segment ∷ segments) batches c = λ c kept. both_go (salt_of old) a segment segments batches b c goes told_first partly (then.both c kept) in
              record {
                told = told_go (salt_of old) a segment segments batches b goes told_first partly then.told;
                goes = λ y. stops_then (all_delivered segment.batches) (all_delivered_in segments batches) goes ∙ then.goes y;
                whole = then.whole;
                kept = λ c kept. kept_of_both (salt_of old) a (segment ∷ segments) batches c (both c kept);
                both = both;
              }

          -- The space broke in the purge.
          live_broken : IsOver end → ((b : Airspace) → g.holds (space_of end) b → IsPartlyPurged segment.until after b) → RunsPurged k (salt_of old) a (segment ∷ segments) batches new
          live_broken over left =
              let ends = next.ends over in
              run_over ends.0 (told_go (salt_of old) a segment segments batches after goes told_first (chunks_make.nothing segment.until after) (next.told over (salt_of old) after))
              (λ b kept. both_go (salt_of old) a segment segments batches b b goes told_first (left b ((laws.quiet (space_of end) b over.calm).1 (ends.1 b kept))) (next.both over (salt_of old) b))

          live_purged : (r : Result ℕ SpaceFault) → is_shut end ≡ is_broken_after (is_shut mid) r → g.is_broken (space_of end) ≡ is_broken_after (g.is_broken (space_of mid)) r → LeavesPartly g segment.until after (space_of end) r → RunsPurged k (salt_of old) a (segment ∷ segments) batches new
          live_purged (Ok x) shuts breaks left = live_left left.0 (shuts ∙ live) left.1 left.2
          live_purged (Err Unchanged) shuts breaks left = live_left after (shuts ∙ live) left (chunks_make.nothing segment.until after)
          live_purged (Err Broken) shuts breaks left = live_broken (record { shut = shuts; broken = breaks; calm = purge.waits ∙ calm_mid }) left

      live_more : RunsPurged k (salt_of old) a (segment ∷ segments) batches new
      live_more =
          either (has_stopped (all_delivered segment.batches)) live_stopped
          (λ goes. either (is_shut mid) (live_over goes) (λ live. live_purged goes live result purge.shuts (purge.tells live).breaks (purge.left sound after (held goes live))))

    goes_more : Goes old (segment ∷ segments) batches new
    goes_more = record {
      live = live_more;
      others = λ over. All-append (λ r. r ≡ Stopped) (all_delivered segment.batches) (all_delivered_in segments batches) (over_told over) (next.others (over_end (over_mid over)));
      told = told_over;
      both = both_over;
      ends = ends_over;
    }

  -- ---- all segments

  sound_segments : (old : Service S) (segments : List Segment) (last : Service S) → MadeSegments g k old segments last → g.is_sound (space_of last) → g.is_sound (space_of old)
  sound_segments old [] last h sound = subst (λ (s : Service S). g.is_sound (space_of s)) h sound
  sound_segments old (segment ∷ segments) last h sound =
      sound_batches g k laws old segment.batches h.0 h.2 (h.3.2.sound (sound_segments h.1 segments last h.4 sound))

  goes_segments : (old : Service S) (segments : List Segment) (last : Service S) (batches : List Batch) (new : Service S) → MadeSegments g k old segments last → k.is_pending (space_of old) ≡ false → g.is_sound (space_of last)
      → (k.is_pending (space_of last) ≡ false → Follows g k laws last batches new) → Goes old segments batches new
  goes_segments old [] last batches new h calm sound then =
      goes_none old batches new (subst (λ (s : Service S). Follows g k laws s batches new) h (then (ap (λ (s : Service S). k.is_pending (space_of s)) h ∙ calm)))
  goes_segments old (segment ∷ segments) last batches new h calm sound then =
      let purge = h.3.2 in
      goes_more old segment h.0 h.1 h.3.0 h.3.1 segments batches new h.2 purge calm (sound_segments h.1 segments last h.4 sound)
      (goes_segments h.1 segments last batches new h.4 (purge.waits ∙ calm_batches g k laws old segment.batches h.0 h.2 calm) sound then)

  -- ---- the laws

  pub segments_policy : (old new : Service S) (segments : List Segment) (batches : List Batch) (a : Airspace) → AskedInSegments g k old segments batches new a → RunsPurged k (salt_of old) a segments batches new
  segments_policy old new segments batches a is =
      (goes_segments old segments is.last batches new is.segments_made is.calm (sound_batches g k laws is.last batches new is.made is.sound)
      (λ calm. follows_these g k laws is.last batches new is.made calm is.sound)).live a is.goes is.content

  pub open_segment : (old mid new : Service S) (segments : List Segment) (batches : List Batch) (ms : List CallRecord) (a : Airspace) → AskedInSegments g k old segments batches mid a → CalledInOrder g k mid ms new → g.is_sound (space_of new) → RunsPurged k (salt_of old) a segments (batches ++ uncommitted ms ∷ []) new
  open_segment old mid new segments batches ms a is made sound =
      (goes_segments old segments is.last (batches ++ uncommitted ms ∷ []) new is.segments_made is.calm (sound_batches g k laws is.last batches mid is.made is.sound)
      (λ calm.
      follows_batches g k laws is.last batches mid (uncommitted ms ∷ []) new is.made calm is.sound
      (follows_open g k laws mid ms new made (calm_batches g k laws is.last batches mid is.made calm) sound))).live a is.goes is.content
