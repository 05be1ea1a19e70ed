-- Lemmas: an instance whose service evaluated a call, and a request that was released.
use Rattle.std.proofs.Common.{◌≡◌, ℕ, ◌+◌, ◌⊎◌, Bool, true, false, List, [], ◌∷◌, ◌++◌, map, Option, refl, sym, ap, subst, ◌∙◌, arith, inl, inr, append_assoc}
use Rattle.std.proofs.lemmas.List.{append-nil, map-append}
use Rattle.std.proofs.lemmas.List.Elements.{Contains-push_cases}
use Rattle.std.specs.Prelude.{Contains}
use Rattle.policy_core.specs.declared.call.Call.{Call}
use Rattle.space_core.specs.declared.space.Space as spaces
use Rattle.service_step.specs.declared.reply.Reply.{Reply}
use Rattle.service_step.specs.declared.reply.Reply.TheVariants.{Denied, Done, Fault, Stopped}
use Rattle.service_step.specs.Reply.{is_stopped}
use Rattle.service_calls.specs.Run.{IsAllowed, IsReplyTo}
use Rattle.service_calls.specs.Service.{IsNotDone}
use Rattle.service_calls.specs.declared.service.Service.{Service}
use Rattle.pool_core.specs.Events.{InstanceEvent}
use Rattle.pool_core.specs.Serves.{times}
use Rattle.pool_core.specs.declared.log.Log as logs
use Rattle.pool_core.proofs.Histories.{continues_same}
use Rattle.pool_core.proofs.Lists.{contains_at}
use Rattle.pool_instance.specs.Does.{Did, DidNothing}
use Rattle.pool_instance.specs.Evaluate.{LooksOnly, is_denial}
use Rattle.pool_instance.specs.Parts.{heard_in, ids_of, log_of, readings_in, retention_in, sent_by, sent_in, unsent_in}
use Rattle.pool_instance.specs.State.{AreRequests, IsAfter, IsHeld, IsInFlight, IsWaiting}
use Rattle.pool_instance.specs.declared.instance.Instance.{Instance}
use Rattle.pool_instance.specs.declared.waiting.Held.{Held}
use Rattle.pool_instance.specs.declared.waiting.Reading.{Reading}
use Rattle.pool_instance.proofs.After.{Stayed, requests_same, up_quiet}
use Rattle.pool_instance.proofs.Agreed.{none_agreed, still_heard}
use Rattle.pool_instance.proofs.Did.{Kept, did_by, did_kept}
use Rattle.pool_instance.proofs.Pending.{held_at, id_of_held, id_of_reading, ids_times, waiting_at}
use Rattle.pool_instance.proofs.Receipts.{receipts_append}
use Rattle.pool_instance.proofs.Times.{all_from_contains, both, contains_rest, contains_times, times_append, times_contains, times_rest}

-- ---- the service

module _ {S : Type 0} (gs : spaces.Ghosts S) where
  pub allowed_looks : (old new : Service S) (now : ℕ) (call : Call) → IsAllowed gs old new now call → LooksOnly gs old new
  allowed_looks old new now call h = record { stays = h.stays; goes = λ n. h.goes_on; same = λ n s a c. h.same s a c }

  pub plain_looks : (old new : Service S) (now : ℕ) (call : Call) (reply : Reply) → IsNotDone reply → is_stopped reply ≡ false → IsReplyTo gs old new now call reply → LooksOnly gs old new
  plain_looks old new now call (Done answer) plain goes h = absurd plain
  plain_looks old new now call (Denied r m) plain goes h = record { stays = h.stays; goes = λ n. h.shuts n; same = λ n s a c. ((h.answers n).step s a c).1 }
  plain_looks old new now call Fault plain goes h = record { stays = h.stays; goes = λ n. h.shuts n; same = λ n s a c. (h.answers n).step s a c }
  plain_looks old new now call Stopped plain goes h = absurd (both true refl goes)

pub is_fault : (reply : Reply) → IsNotDone reply → is_stopped reply ≡ false → is_denial reply ≡ false → reply ≡ Fault
is_fault (Done answer) plain goes other = absurd plain
is_fault (Denied r m) plain goes other = absurd (both true refl other)
is_fault Fault plain goes other = refl
is_fault Stopped plain goes other = absurd (both true refl goes)

pub queued : {P Q : Type 0} (b : Bool) → (b ≡ true → P) → (b ≡ false → Q) → P ⊎ Q
queued true p q = inl (p refl)
queued false p q = inr (q refl)

-- ---- a request is released

module _ (events : List InstanceEvent) (front : List Reading) (r : Reading) (back : List Reading) (hs : List Held) (slots : List (Option ℕ)) (n : ℕ) (all : AreRequests events (front ++ r ∷ back) hs slots n) where
  released_times : (k : ℕ) → times k (ids_of (front ++ back) (hs ++ r.held ∷ []) slots) ≡ times k (ids_of (front ++ r ∷ back) hs slots)
  released_times k =
      let more : times k (map id_of_held (hs ++ r.held ∷ [])) ≡ times k (map id_of_held hs) + times k (r.held.id ∷ []) =
      ap (λ v. times k v) (map-append id_of_held hs (r.held ∷ [])) ∙ times_append k (map id_of_held hs) (r.held.id ∷ []) in
      omega (arith, more, ids_times k (front ++ back) (hs ++ r.held ∷ []) slots, ids_times k (front ++ r ∷ back) hs slots, times_rest k id_of_reading front r back)

  released_held : (x : Held) → Contains (hs ++ r.held ∷ []) x → IsHeld events x
  released_held x h = elim (Contains-push_cases hs r.held x h) [
    | inl old ↦ held_at events (front ++ r ∷ back) hs slots n all x old
    | inr new ↦ subst (λ (v : Held). IsHeld events v) new (waiting_at events (front ++ r ∷ back) hs slots n all r (contains_at front r back)).held
  ]

  pub requests_released : AreRequests events (front ++ back) (hs ++ r.held ∷ []) slots n
  requests_released = record {
    readings = all_from_contains (IsWaiting events) (front ++ back) (λ x h. waiting_at events (front ++ r ∷ back) hs slots n all x (contains_rest front r back x h));
    unsent = all_from_contains (IsHeld events) (hs ++ r.held ∷ []) released_held;
    sent = all.sent;
    kept = λ id call o.
        let was = contains_times id (ids_of (front ++ r ∷ back) hs slots) (all.kept id call o) in
        times_contains id (ids_of (front ++ back) (hs ++ r.held ∷ []) slots) (omega (arith, was, released_times id));
    apart = λ id. omega (arith, all.apart id, released_times id);
    offered = all.offered;
    numbered = all.numbered;
    ended_below = all.ended_below;
    offered_below = all.offered_below;
  }

module _ {L S : Type 0} (gl : logs.Ghosts L) (gs : spaces.Ghosts S) where
  pub did_then : (old : Instance L S) (a : List InstanceEvent) (mid : Instance L S) (b : List InstanceEvent) (new : Instance L S) → Did gl gs old a mid → Did gl gs mid b new → Did gl gs old (a ++ b) new
  did_then old a mid b new p q = record {
    after = λ past start events is. subst (λ v. IsAfter gl gs past start v new) (append_assoc events a b) (q.after past start (events ++ a) (p.after past start events is));
    salt = q.salt ∙ p.salt;
    writer = q.writer ∙ p.writer;
    retention = q.retention ∙ p.retention;
    sound = λ h. p.sound (q.sound h);
    stays_ended = λ h. q.stays_ended (p.stays_ended h);
    received = omega (arith, p.received, q.received, receipts_append a b);
  }

  -- The service evaluated a call.
  module _ (old : Instance L S) (s : Service S) (looks : LooksOnly gs old.service s) where
    abbrev looked : Instance L S
    looked = record old { service = s }

    looked_stayed : Stayed gl gs old looked []
    looked_stayed = record {
      history = continues_same (gl.history (log_of old)) (gl.history (log_of old)) refl;
      writer = refl;
      salt = looks.stays.salt;
      retention = refl;
      sound = looks.stays.sound;
    }

    pub did_look : Did gl gs old [] looked
    did_look =
        did_by gl gs old looked [] looked_stayed (λ h. h) (omega arith)
        (λ past start events is. record {
          follows = λ s. tt;
          up = λ goes.
              let up = is.up_to_date goes in
              up_quiet gl gs start events [] old looked [] looked_stayed (record { given = refl; offered = refl }) up (looks.goes up.goes) refl (λ a sound h. looks.same up.goes sound a h) up.flight;
          requests = requests_same events (events ++ []) (readings_in old) (readings_in old) (unsent_in old) (unsent_in old) (sent_in old) (sent_in old) old.received old.received (append-nil events) refl refl refl refl is.requests;
          heard = still_heard (gl.writer (log_of old)) events [] (heard_in old) (heard_in old) refl is.heard;
          agreed = none_agreed (retention_in old) (gl.writer (log_of old)) events [] refl;
        })

    pub nothing_looked : DidNothing gl gs old looked
    nothing_looked = record { did = did_look; same = refl; taken = refl }

  -- A request was released.
  pub did_release : (old new : Instance L S) (k : Kept gl gs old new []) (front : List Reading) (r : Reading) (back : List Reading) → readings_in old ≡ front ++ r ∷ back → readings_in new ≡ front ++ back → unsent_in new ≡ unsent_in old ++ r.held ∷ []
      → new.in_flight ≡ old.in_flight → new.received ≡ old.received → Did gl gs old [] new
  did_release old new k front r back was less more flight n =
      did_kept gl gs old new [] k (record { given = refl; offered = refl }) (omega (arith, n))
      (λ events h. subst (λ v. IsInFlight (gl.writer (log_of old)) events v) (sym flight) h)
      (λ start events all. tt)
      (λ events all.
      requests_same events (events ++ []) (front ++ back) (readings_in new) (unsent_in old ++ r.held ∷ []) (unsent_in new) (sent_in old) (sent_in new) old.received new.received
      (append-nil events) less more (ap (λ v. sent_by v) flight) n
      (requests_released events front r back (unsent_in old) (sent_in old) old.received (subst (λ (v : List Reading). AreRequests events v (unsent_in old) (sent_in old) old.received) was all)))
