-- Lemmas: a batch or a purge that is offered, an entry that is taken, and a reading that is answered.
use Rattle.std.proofs.Common.{◌≡◌, ◌==◌, ℕ, ◌+◌, Bool, true, false, List, [], ◌∷◌, ◌++◌, length, map, Option, Some, None, refl, sym, ap, subst, ◌∙◌, arith, append_assoc, length-append, inl, inr}
use Rattle.std.specs.Prelude.{All, count_by}
use Rattle.std.specs.declared.vec.Vec.{Vec}
use Rattle.std.proofs.lemmas.Bool.Decides.{nat_tests}
use Rattle.std.proofs.lemmas.List.{append-nil, take_all, take_at}
use Rattle.std.proofs.lemmas.List.Elements.{All-take}
use Rattle.entity_core.specs.Airspace.{Airspace}
use Rattle.policy_core.specs.declared.call.Call.{Call}
use Rattle.space_core.specs.Space.{IsContent}
use Rattle.space_core.specs.declared.space.Space as spaces
use Rattle.service_step.specs.declared.reply.Reply.{Reply}
use Rattle.service_step.specs.declared.reply.Reply.TheVariants.{Done, Denied, Fault, Stopped}
use Rattle.service_step.specs.Reply.{is_stopped}
use Rattle.service_step.specs.Step.{IsDoneOrDenied, step}
use Rattle.service_calls.specs.Held.{is_shut, salt_of, space_of}
use Rattle.service_calls.specs.Run.{IsReplyTo}
use Rattle.pool_core.specs.Acts.{airspace_by, replies_by}
use Rattle.service_calls.specs.Service.{Leaves}
use Rattle.pool_core.specs.Events.{AfterFirst, Answers, Drops, Gets, InstanceEvent, Offers, batches_offered, entries_given}
use Rattle.pool_core.specs.Log.{Continues, GivesEntry, LogEntry, TakesBatch}
use Rattle.pool_core.specs.Serves.{AllMayFollow, AreOpen, ReachesEnd, airspace_at, acts_in, ended_in, ids_offered, offered_in}
use Rattle.pool_core.specs.declared.log.Log as logs
use Rattle.pool_core.proofs.Lists.{contains_at, contains_same}
use Rattle.pool_core.proofs.Projections.{given_append, offered_append, same_number}
use Rattle.pool_core.proofs.Unlogged.{reading_unchanged}
use Rattle.pool_entry.specs.Acts.{acts_of}
use Rattle.pool_instance.specs.Does.{Did, in_place}
use Rattle.pool_instance.specs.Effects.{MadeEntry, TellsOwn}
use Rattle.pool_instance.specs.Evaluate.{ChangesNothing}
use Rattle.pool_instance.specs.Lists.{AreReplies, told_of}
use Rattle.pool_instance.specs.Parts.{count_taken, heard_in, is_due, is_due_by, is_ended, log_of, readings_in, retention_in, salt_in, sent_by, sent_in, space_in, unsent_in}
use Rattle.pool_instance.specs.Purging.{IsHeard}
use Rattle.pool_instance.specs.Request.{call_of}
use Rattle.pool_instance.specs.State.{AreOfBatch, AreRequests, IsAtStage, IsHeld, IsInFlight, IsUpToDate, IsWaiting, airspace_of, count_own}
use Rattle.pool_instance.specs.declared.instance.Instance.{Instance}
use Rattle.pool_instance.specs.declared.waiting.Held.{Held}
use Rattle.pool_instance.specs.declared.waiting.Reading.{Reading}
use Rattle.pool_instance.specs.declared.waiting.Stage.{Stage}
use Rattle.pool_instance.specs.declared.waiting.Stage.TheVariants.{Asked, Fresh, Until}
use Rattle.pool_core.proofs.Histories.{continues_same}
use Rattle.pool_instance.proofs.After.{AreQuiet, Stayed, flight_quiet, given_quiet, requests_same, up_quiet}
use Rattle.pool_instance.proofs.Agreed.{AreAgreedThen, hears_then, none_agreed, still_heard}
use Rattle.pool_instance.proofs.Did.{Kept, did_by, did_end, kept_stayed}
use Rattle.pool_instance.proofs.Ends.{none_ends, offered_once, offers_then, reading_ends, slots_of}
use Rattle.pool_instance.proofs.Pending.{id_of_held, waiting_at}
use Rattle.pool_instance.proofs.Receipts.{told_receipts}
use Rattle.pool_instance.proofs.Steps.{IsNoReceipt, reaches_later}
use Rattle.pool_instance.proofs.Take.{airspace_is, answered_all, answers_follow, answers_quiet, answers_unlogged, flight_other, flight_taken, given_is, told_in_place}
use Rattle.pool_instance.proofs.Times.{both, times_append}

front_all : {X : Type 0} (P : X → Type 0) (front back : List X) → All P (front ++ back) → All P front
front_all {X} P front back h = subst (λ (v : List X). All P v) (take_at front back (length front) refl) (All-take P (length front) (front ++ back) h)

-- ---- a batch

pub slots_of_batch : (hs : List Held) → AreOfBatch (slots_of hs) (map id_of_held hs)
slots_of_batch [] = tt
slots_of_batch (h ∷ hs) = (refl, slots_of_batch hs)

pub offer_flight : {A : Type 0} (me : ℕ) (events : List InstanceEvent) (ids bytes : List ℕ) (old new : Option (Vec (Option ℕ) A)) (sent : Vec (Option ℕ) A) → old ≡ None → new ≡ Some sent → AreOfBatch sent.items ids → IsInFlight me events old
    → IsInFlight me (events ++ Offers ids bytes ∷ []) new
offer_flight {A} me events ids bytes old new sent none some of h =
    let before : IsInFlight {A = A} me events None = subst (λ (v : Option (Vec (Option ℕ) A)). IsInFlight me events v) none h in
    let own : count_own me (events ++ Offers ids bytes ∷ []) ≡ count_own me events = ap (λ (v : List LogEntry). count_by (λ entry. me == entry.writer) v) (given_append events (Offers ids bytes ∷ []) ∙ append-nil (entries_given events)) in
    subst (λ (v : Option (Vec (Option ℕ) A)). IsInFlight me (events ++ Offers ids bytes ∷ []) v) (sym some)
    (batches_offered me events, (record { writer = me; ids = ids; bytes = bytes }, offered_append me events (Offers ids bytes ∷ []), before ∙ sym own, of))

module _ {L S : Type 0} (gl : logs.Ghosts L) (gs : spaces.Ghosts S) where
  module _ (old new : Instance L S) (front back : List Held) (bytes : List ℕ) (k : Kept gl gs old new (TakesBatch bytes ∷ []))
      (was : unsent_in old ≡ front ++ back) (rest : unsent_in new ≡ back) (same : readings_in new ≡ readings_in old) (n : new.received ≡ old.received) (none : old.in_flight ≡ None)
      (opens : (events : List InstanceEvent) → All (IsHeld events) front → AreOpen events (map id_of_held front) (acts_of bytes)) where
    abbrev offer : InstanceEvent
    offer = Offers (map id_of_held front) bytes

    requests_were : (events : List InstanceEvent) → AreRequests events (readings_in old) (unsent_in old) (sent_in old) old.received → AreRequests events (readings_in old) (front ++ back) [] old.received
    requests_were events all =
        requests_same events events (readings_in old) (readings_in old) (unsent_in old) (front ++ back) (sent_in old) [] old.received old.received refl refl (sym was) (sym (ap (λ v. sent_by v) none)) refl all

    offer_follows : (start : Airspace) (events : List InstanceEvent) → AreRequests events (readings_in old) (front ++ back) [] old.received → AllMayFollow acts_of (salt_in old) start (gl.writer (log_of old)) events (offer ∷ [])
    offer_follows start events all = (
      record {
        calls = opens events (front_all (IsHeld events) front back all.unsent);
        once = λ id. omega (arith, times_append id (ids_offered events) (map id_of_held front), offered_once events (readings_in old) front back old.received all id);
      },
      tt,
    )

    offer_up : (start : Airspace) (events : List InstanceEvent) → IsInFlight (gl.writer (log_of old)) (events ++ offer ∷ []) new.in_flight → IsUpToDate gl gs start events old → IsUpToDate gl gs start (events ++ offer ∷ []) new
    offer_up start events flight up =
        let given : entries_given (events ++ offer ∷ []) ≡ entries_given events = given_append events (offer ∷ []) ∙ append-nil (entries_given events) in
        record {
          goes = ap (λ v. is_shut v) k.service ∙ up.goes;
          taken = k.taken ∙ up.taken ∙ sym (ap (λ (v : List LogEntry). length v) given);
          held = λ sound.
              let before = up.held (subst (λ v. gs.is_sound (space_of v)) k.service sound) in
              let air : airspace_of (salt_in new) start (events ++ offer ∷ []) ≡ airspace_of (salt_in old) start events =
              ap (λ (v : List ℕ). airspace_of v start (events ++ offer ∷ [])) (ap (λ v. salt_of v) k.service) ∙ ap (λ (v : List LogEntry). airspace_by (salt_in old) start (acts_in acts_of v)) given in
              subst (λ (a : Airspace). IsContent gs.holds (space_in new) a) (sym air) (subst (λ v. IsContent gs.holds (space_of v) (airspace_of (salt_in old) start events)) (sym k.service) before);
          flight = subst (λ (v : ℕ). IsInFlight v (events ++ offer ∷ []) new.in_flight) (sym k.writer) flight;
        }

    module _ (sent : sent_in new ≡ slots_of front)
        (flight : (events : List InstanceEvent) → IsInFlight (gl.writer (log_of old)) events old.in_flight → IsInFlight (gl.writer (log_of old)) (events ++ offer ∷ []) new.in_flight)
        (agreed : (events : List InstanceEvent) → IsHeard (gl.writer (log_of old)) events (heard_in old) → AreAgreedThen (retention_in old) (gl.writer (log_of old)) events (offer ∷ [])) where
      pub did_offer : Did gl gs old (offer ∷ []) new
      did_offer =
          did_by gl gs old new (offer ∷ []) (kept_stayed gl gs old new (TakesBatch bytes ∷ []) k) (λ h. k.ended ∙ h) (omega (arith, n))
          (λ past start events is.
          let all = requests_were events is.requests in
          record {
            follows = λ s. offer_follows start events all;
            up = λ goes.
                let up = is.up_to_date (sym k.ended ∙ goes) in
                offer_up start events (flight events up.flight) up;
            requests =
                requests_same (events ++ offer ∷ []) (events ++ offer ∷ []) (readings_in old) (readings_in new) back (unsent_in new) (slots_of front) (sent_in new) old.received new.received refl same rest sent n
                (offers_then events (readings_in old) front back old.received all bytes);
            heard = still_heard (gl.writer (log_of old)) events (offer ∷ []) (heard_in old) (heard_in new) k.heard is.heard;
            agreed = agreed events is.heard;
          })

-- ---- an entry

gets_no_receipt : (entry : LogEntry) → IsNoReceipt (Gets entry)
gets_no_receipt entry id call h = cc

test_other : (n m : ℕ) → (n == m) ≡ false → (b : Bool) → (m == n) ≡ b → (m == n) ≡ false
test_other n m h true is = let e : m ≡ n = grind (arith, is) in absurd (both (n == m) (subst (λ (v : ℕ). (v == m) ≡ true) e (same_number m)) h)
test_other n m h false is = is

test_turns : (n m : ℕ) (b : Bool) → (n == m) ≡ b → (m == n) ≡ b
test_turns n m true h = let e : n ≡ m = grind (arith, h) in subst (λ (v : ℕ). (m == v) ≡ true) (sym e) (same_number m)
test_turns n m false h = test_other n m h (m == n) refl

module _ {A : Type 0} (rs : List Reading) (hs : List Held) (n : ℕ) (salt : List ℕ) (start : Airspace) (me : ℕ) (events : List InstanceEvent) (entry : LogEntry) (replies : List Reply) where
  take_follows : (b : Bool) (f f' : Option (Vec (Option ℕ) A)) (told : List (ℕ × Reply)) → (entry.writer == me) ≡ b → IsInFlight me events f → TellsOwn b f f' replies told → AreRequests (events ++ Gets entry ∷ []) rs hs (sent_by f) n
      → AreReplies replies (replies_by salt (airspace_by salt start (acts_in acts_of (entries_given events))) (acts_of entry.bytes))
      → AllMayFollow acts_of salt start me (events ++ Gets entry ∷ []) (map in_place told)
  take_follows false f f' told is flight own all policy = subst (λ (v : List (ℕ × Reply)). AllMayFollow acts_of salt start me (events ++ Gets entry ∷ []) (map in_place v)) (sym own.0) tt
  take_follows true None f' told is flight own all policy = absurd own
  take_follows true (Some sent) f' told is flight own all policy =
      let writer : entry.writer ≡ me = grind (arith, is) in
      subst (λ (v : List (ℕ × Reply)). AllMayFollow acts_of salt start me (events ++ Gets entry ∷ []) (map in_place v)) (sym own.1)
      (answers_follow rs hs n salt start me (events ++ Gets entry ∷ []) sent.items replies all
      (told_in_place salt start me events entry writer flight.0 flight.1.0 flight.1.1 flight.1.2 sent.items flight.1.3 replies policy))

  take_requests : (b : Bool) (f f' : Option (Vec (Option ℕ) A)) (told : List (ℕ × Reply)) → TellsOwn b f f' replies told → AreRequests (events ++ Gets entry ∷ []) rs hs (sent_by f) n → AreRequests ((events ++ Gets entry ∷ []) ++ map in_place told) rs hs (sent_by f') n
  take_requests false f f' told own all =
      requests_same (events ++ Gets entry ∷ []) ((events ++ Gets entry ∷ []) ++ map in_place told) rs rs hs hs (sent_by f) (sent_by f') n n (ap (λ (v : List (ℕ × Reply)). (events ++ Gets entry ∷ []) ++ map in_place v) own.0 ∙ append-nil (events ++ Gets entry ∷ [])) refl refl (ap (λ v. sent_by v) own.1) refl all
  take_requests true None f' told own all = absurd own
  take_requests true (Some sent) f' told own all =
      requests_same ((events ++ Gets entry ∷ []) ++ map in_place (told_of sent.items replies)) ((events ++ Gets entry ∷ []) ++ map in_place told) rs rs hs hs [] (sent_by f') n n (ap (λ (v : List (ℕ × Reply)). (events ++ Gets entry ∷ []) ++ map in_place v) own.1) refl refl (ap (λ v. sent_by v) own.2) refl
      (answered_all rs hs n (events ++ Gets entry ∷ []) sent.items replies own.0 all)

  take_flight : (b : Bool) (f f' : Option (Vec (Option ℕ) A)) (told : List (ℕ × Reply)) → (entry.writer == me) ≡ b → IsInFlight me events f → TellsOwn b f f' replies told → IsInFlight me ((events ++ Gets entry ∷ []) ++ map in_place told) f'
  take_flight false f f' told is flight own =
      flight_quiet me (events ++ Gets entry ∷ []) (map in_place told) f' (answers_quiet me told)
      (subst (λ (v : Option (Vec (Option ℕ) A)). IsInFlight me (events ++ Gets entry ∷ []) v) (sym own.1) (flight_other me events entry f (test_turns entry.writer me false is) flight))
  take_flight true None f' told is flight own = absurd own
  take_flight true (Some sent) f' told is flight own =
      flight_quiet me (events ++ Gets entry ∷ []) (map in_place told) f' (answers_quiet me told)
      (subst (λ (v : Option (Vec (Option ℕ) A)). IsInFlight me (events ++ Gets entry ∷ []) v) (sym own.2) (flight_taken me events entry flight.0 flight.1.0 flight.1.1 flight.1.2 (test_turns entry.writer me true is)))

module _ {L S : Type 0} (gl : logs.Ghosts L) (gs : spaces.Ghosts S) where
  module _ (old new : Instance L S) (entry : LogEntry) (told : List (ℕ × Reply)) (going : is_ended old ≡ false) (stayed : Stayed gl gs old new (GivesEntry entry ∷ []))
      (same_rs : readings_in new ≡ readings_in old) (same_hs : unsent_in new ≡ unsent_in old) (n : new.received ≡ old.received) (ended : is_ended new ≡ is_ended old)
      (made : MadeEntry gl gs entry old new told) where
    abbrev takes : List InstanceEvent
    takes = Gets entry ∷ map in_place told

    abbrev me : ℕ
    me = gl.writer (log_of old)

    requests_given : (events : List InstanceEvent) → AreRequests events (readings_in old) (unsent_in old) (sent_in old) old.received → AreRequests (events ++ Gets entry ∷ []) (readings_in old) (unsent_in old) (sent_in old) old.received
    requests_given events all = none_ends events (Gets entry) (gets_no_receipt entry) refl (readings_in old) (unsent_in old) (sent_in old) old.received all refl

    more_is : (events : List InstanceEvent) → (events ++ Gets entry ∷ []) ++ map in_place told ≡ events ++ takes
    more_is events = append_assoc events (Gets entry ∷ []) (map in_place told)

    take_up : (start : Airspace) (events : List InstanceEvent) → IsUpToDate gl gs start events old → IsUpToDate gl gs start (events ++ takes) new
    take_up start events up =
        let calls = made.made up.goes in
        let given : entries_given (events ++ takes) ≡ entries_given (events ++ Gets entry ∷ []) =
        ap (λ (v : List InstanceEvent). entries_given v) (sym (more_is events)) ∙ given_quiet me (events ++ Gets entry ∷ []) (map in_place told) (answers_quiet me told) in
        let more : length (entries_given (events ++ takes)) ≡ length (entries_given events) + 1 =
        ap (λ (v : List LogEntry). length v) (given ∙ given_is (salt_in old) start me events entry) ∙ length-append (entries_given events) (entry ∷ []) in
        record {
          goes = calls.goes;
          taken = omega (arith, made.taken, up.taken, more);
          held = λ sound.
              let content = (calls.made sound (airspace_of (salt_in old) start events) (up.held (stayed.sound sound))).1 in
              let air : airspace_of (salt_in new) start (events ++ takes) ≡ airspace_by (salt_in old) (airspace_of (salt_in old) start events) (acts_of entry.bytes) =
              ap (λ (v : List ℕ). airspace_of v start (events ++ takes)) stayed.salt ∙ ap (λ (v : List LogEntry). airspace_by (salt_in old) start (acts_in acts_of v)) given
              ∙ airspace_is (salt_in old) start me events entry in
              subst (λ (a : Airspace). IsContent gs.holds (space_in new) a) (sym air) content;
          flight =
              subst (λ (v : ℕ). IsInFlight v (events ++ takes) new.in_flight) (sym stayed.writer)
              (subst (λ (v : List InstanceEvent). IsInFlight me v new.in_flight) (more_is events)
              (take_flight (readings_in old) (unsent_in old) old.received (salt_in old) start me events entry made.replies (entry.writer == me) old.in_flight new.in_flight told refl up.flight made.own));
        }

    pub did_take : Did gl gs old takes new
    did_take =
        did_by gl gs old new takes (record { history = subst (λ v. Continues (gl.history (log_of old)) (gl.history (log_of new)) (GivesEntry entry ∷ v)) (sym (answers_unlogged told)) stayed.history; writer = stayed.writer; salt = stayed.salt; retention = stayed.retention; sound = stayed.sound })
        (λ h. ended ∙ h) (omega (arith, n, told_receipts told))
        (λ past start events is.
        let up = is.up_to_date going in
        let all = requests_given events is.requests in
        record {
          follows = λ sound. (
            tt,
            take_follows (readings_in old) (unsent_in old) old.received (salt_in old) start me events entry made.replies (entry.writer == me) old.in_flight new.in_flight told refl up.flight made.own all
                ((made.made up.goes).made sound (airspace_of (salt_in old) start events) (up.held (stayed.sound sound))).0,
          );
          up = λ goes. take_up start events up;
          requests =
              requests_same ((events ++ Gets entry ∷ []) ++ map in_place told) (events ++ takes) (readings_in old) (readings_in new) (unsent_in old) (unsent_in new) (sent_in new) (sent_in new) old.received new.received (sym (more_is events)) same_rs same_hs refl n
              (take_requests (readings_in old) (unsent_in old) old.received (salt_in old) start me events entry made.replies (entry.writer == me) old.in_flight new.in_flight told made.own all);
          heard = hears_then (entry.writer == me) me events (map in_place told) entry (heard_in old) (heard_in new) refl made.hears is.heard;
          agreed = none_agreed (retention_in old) me events takes (answers_quiet me told).offered;
        })

  -- An entry that was given as the instance ended.
  pub did_end_given : (old new : Instance L S) (entry : LogEntry) → Stayed gl gs old new (GivesEntry entry ∷ []) → is_ended new ≡ true
      → readings_in new ≡ readings_in old → unsent_in new ≡ unsent_in old → sent_in new ≡ sent_in old → new.received ≡ old.received → heard_in new ≡ heard_in old → Did gl gs old (Gets entry ∷ []) new
  did_end_given old new entry stayed ended rs hs slots n same =
      did_end gl gs old new (Gets entry ∷ []) stayed ended rs hs slots n same refl refl (λ start events. (tt, tt))
      (λ events all. none_ends events (Gets entry) (gets_no_receipt entry) refl (readings_in old) (unsent_in old) (sent_in old) old.received all refl)

  -- ---- a request that waits for the end of the log

  due_reaches : (events : List InstanceEvent) (id : ℕ) (call : Call) (count : ℕ) (s : Stage) → is_due_by count s ≡ true → IsAtStage events id call s → ReachesEnd events id call count
  due_reaches events id call count Fresh due h = absurd cc
  due_reaches events id call count (Asked q) due h = absurd cc
  due_reaches events id call count (Until end) due h = reaches_later events id call end count h (grind (arith, nat_tests, due))

  -- The content of the space after a call that changed nothing, and its reply.
  plain_content : (salt : List ℕ) (a : Airspace) (now : ℕ) (call : Call) (reply : Reply) (new : S) → ChangesNothing call reply → Leaves gs salt a now call reply new → (reply ≡ Stopped → ⊥) → IsContent gs.holds new a
  plain_content salt a now call (Done answer) new (inr none) h goes = absurd none
  plain_content salt a now call (Done answer) new (inl reading) h goes = subst (λ (v : Airspace). IsContent gs.holds new v) (ap (λ (v : Airspace × Reply). v.0) (reading_unchanged salt a now call reading)) h.1
  plain_content salt a now call (Denied r m) new plain h goes = h.1
  plain_content salt a now call Fault new plain h goes = h
  plain_content salt a now call Stopped new plain h goes = absurd (goes refl)

  plain_policy : (salt : List ℕ) (a : Airspace) (now : ℕ) (call : Call) (reply : Reply) (new : S) → ChangesNothing call reply → Leaves gs salt a now call reply new → IsDoneOrDenied reply → step salt a now call ≡ (a, reply)
  plain_policy salt a now call (Done answer) new (inr none) h final = absurd none
  plain_policy salt a now call (Done answer) new (inl reading) h final = reading_unchanged salt a now call reading ∙ ap (λ (r : Reply). (a, r)) h.0
  plain_policy salt a now call (Denied r m) new plain h final = h.0
  plain_policy salt a now call Fault new plain h final = absurd final
  plain_policy salt a now call Stopped new plain h final = absurd final

  reply_no_receipt : (id count now : ℕ) (call : Call) (reply : Reply) → IsNoReceipt (Answers id (AfterFirst count (now, call)) reply)
  reply_no_receipt id count now call reply k c h = cc

  fail_no_receipt : (id : ℕ) → IsNoReceipt (Drops id)
  fail_no_receipt id k c h = cc

  module _ (old new : Instance L S) (now : ℕ) (front : List Reading) (r : Reading) (back : List Reading) (reply : Reply) (going : is_ended old ≡ false) (was : readings_in old ≡ front ++ r ∷ back)
      (asked : IsReplyTo gs old.service new.service now (call_of r.held.request) reply) (plain : ChangesNothing (call_of r.held.request) reply) (log : log_of new ≡ log_of old) (less : readings_in new ≡ front ++ back) (same_hs : unsent_in new ≡ unsent_in old) (same : new.in_flight ≡ old.in_flight)
      (taken : count_taken new ≡ count_taken old) (n : new.received ≡ old.received) (ended : is_ended new ≡ is_ended old) (goes : is_stopped reply ≡ false)
      (retained : retention_in new ≡ retention_in old) (heard : heard_in new ≡ heard_in old) where
    abbrev call : Call
    call = call_of r.held.request

    reply_stayed : Stayed gl gs old new []
    reply_stayed = record {
      history = continues_same (gl.history (log_of old)) (gl.history (log_of new)) (ap (λ v. gl.history v) log);
      writer = ap (λ v. gl.writer v) log;
      salt = asked.stays.salt;
      retention = retained;
      sound = asked.stays.sound;
    }

    waits : (events : List InstanceEvent) → AreRequests events (readings_in old) (unsent_in old) (sent_in old) old.received → IsWaiting events r
    waits events all = waiting_at events (readings_in old) (unsent_in old) (sent_in old) old.received all r (contains_same (readings_in old) (front ++ r ∷ back) r was (contains_at front r back))

    not_stopped : reply ≡ Stopped → ⊥
    not_stopped h = both (is_stopped reply) (ap (λ v. is_stopped v) h) goes

    reply_up : (start : Airspace) (events more : List InstanceEvent) → AreQuiet (gl.writer (log_of old)) more → IsUpToDate gl gs start events old → IsWaiting events r → IsUpToDate gl gs start (events ++ more) new
    reply_up start events more quiet up w =
        up_quiet gl gs start events more old new [] reply_stayed quiet up (asked.shuts up.goes ∙ goes) taken
        (λ a sound h. plain_content (salt_in old) a now call reply (space_in new) plain ((asked.answers up.goes).step sound a h) not_stopped)
        (subst (λ v. IsInFlight (gl.writer (log_of old)) events v) (sym same) up.flight)

    reply_requests : (events : List InstanceEvent) (e : InstanceEvent) → IsNoReceipt e → offered_in e ≡ [] → ended_in e ≡ r.held.id ∷ [] → AreRequests events (readings_in old) (unsent_in old) (sent_in old) old.received
        → AreRequests (events ++ e ∷ []) (readings_in new) (unsent_in new) (sent_in new) new.received
    reply_requests events e quiet none ends all =
        requests_same (events ++ e ∷ []) (events ++ e ∷ []) (front ++ back) (readings_in new) (unsent_in old) (unsent_in new) (sent_in old) (sent_in new) old.received new.received refl less same_hs (ap (λ v. sent_by v) same) n
        (reading_ends events e quiet none front r back (unsent_in old) (sent_in old) old.received (subst (λ (v : List Reading). AreRequests events v (unsent_in old) (sent_in old) old.received) was all) ends)

    -- The request failed.
    pub did_fail : Did gl gs old (Drops r.held.id ∷ []) new
    did_fail =
        did_by gl gs old new (Drops r.held.id ∷ []) reply_stayed (λ h. ended ∙ h) (omega (arith, n))
        (λ past start events is.
        let w = waits events is.requests in
        record {
          follows = λ sound. (((call, w.held.opens), w.held.unoffered), tt);
          up = λ goes. reply_up start events (Drops r.held.id ∷ []) (record { given = refl; offered = refl }) (is.up_to_date going) w;
          requests = reply_requests events (Drops r.held.id) (fail_no_receipt r.held.id) refl refl is.requests;
          heard = still_heard (gl.writer (log_of old)) events (Drops r.held.id ∷ []) (heard_in old) (heard_in new) heard is.heard;
          agreed = none_agreed (retention_in old) (gl.writer (log_of old)) events (Drops r.held.id ∷ []) refl;
        })

    -- The request got its reply.
    pub did_answer : is_due (count_taken old) r ≡ true → IsDoneOrDenied reply → Did gl gs old (Answers r.held.id (AfterFirst (count_taken old) (now, call)) reply ∷ []) new
    did_answer due final =
        let e = Answers r.held.id (AfterFirst (count_taken old) (now, call)) reply in
        did_by gl gs old new (e ∷ []) reply_stayed (λ h. ended ∙ h) (omega (arith, n))
        (λ past start events is.
        let w = waits events is.requests in
        let up = is.up_to_date going in
        record {
          follows = λ sound.
              let here : airspace_at acts_of (salt_in old) start (entries_given events) (count_taken old) ≡ airspace_of (salt_in old) start events =
              ap (λ (v : List LogEntry). airspace_by (salt_in old) start (acts_in acts_of v)) (take_all (count_taken old) (entries_given events) (omega (arith, up.taken))) in
              let a = airspace_of (salt_in old) start events in
              let policy = plain_policy (salt_in old) a now call reply (space_in new) plain ((asked.answers up.goes).step sound a (up.held (reply_stayed.sound sound))) final in (
                (
                  w.held.opens,
                  record {
                    unoffered = w.held.unoffered;
                    given = omega (arith, up.taken);
                    end = due_reaches events r.held.id call (count_taken old) r.stage due w.stage;
                    is_policy = subst (λ (v : Airspace). step (salt_in old) v now call ≡ (v, reply)) (sym here) policy;
                  },
                ),
                tt,
              );
          up = λ goes. reply_up start events (e ∷ []) (record { given = refl; offered = refl }) up w;
          requests = reply_requests events e (reply_no_receipt r.held.id (count_taken old) now call reply) refl refl is.requests;
          heard = still_heard (gl.writer (log_of old)) events (e ∷ []) (heard_in old) (heard_in new) heard is.heard;
          agreed = none_agreed (retention_in old) (gl.writer (log_of old)) events (e ∷ []) refl;
        })
