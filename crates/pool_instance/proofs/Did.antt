-- Lemmas: what the operations of an instance did.
use Rattle.std.proofs.Common.{◌≡◌, ℕ, suc, ◌+◌, Bool, true, false, List, [], ◌∷◌, ◌++◌, map, Option, Some, None, refl, sym, ap, subst, ◌∙◌, arith, inl, inr, append_assoc}
use Rattle.std.specs.Prelude.{Contains, find}
use Rattle.std.specs.List.{flat_map}
use Rattle.std.specs.declared.vec.Vec.{Vec}
use Rattle.std.proofs.lemmas.List.{map-append}
use Rattle.std.proofs.lemmas.List.Elements.{Contains-append_right, Contains-push, Contains-push_cases}
use Rattle.entity_core.specs.Airspace.{Airspace}
use Rattle.policy_core.specs.declared.call.Call.{Call}
use Rattle.policy_core.specs.declared.rule.Rule.{Rule}
use Rattle.policy_core.specs.Missing.{nothing_missing}
use Rattle.policy_core.specs.Policy.{breaks, early_rules}
use Rattle.space_core.specs.Space.{IsContent}
use Rattle.space_core.specs.declared.space.Space as spaces
use Rattle.service_step.specs.declared.reply.Reply.{Reply}
use Rattle.service_step.specs.declared.reply.Reply.TheVariants.{Denied}
use Rattle.service_calls.specs.Held.{is_shut, salt_of, space_of}
use Rattle.service_calls.specs.declared.service.Service.{Service}
use Rattle.pool_core.specs.Events.{Answers, AsksForEnd, AtOnce, Drops, Fails, InstanceEvent, LearnsEnd, Receives, batches_offered, log_events}
use Rattle.pool_core.specs.Log.{AsksEnd, Continues, LogEvent, TellsEnd}
use Rattle.pool_core.specs.Serves.{AllMayFollow, IsOpen, ids_offered, times}
use Rattle.pool_core.specs.declared.log.Log as logs
use Rattle.pool_core.proofs.Lists.{contains_at, contains_same}
use Rattle.pool_core.proofs.Unlogged.{early_anywhere}
use Rattle.pool_entry.specs.Acts.{acts_of}
use Rattle.pool_instance.specs.Does.{Did, DidNothing, count_receipts}
use Rattle.pool_instance.specs.Effects.{Forgets, ForgetsIn}
use Rattle.pool_instance.specs.Lists.{asked, told}
use Rattle.pool_instance.specs.Parts.{count_received, count_taken, heard_in, ids_of, ids_sent, is_ended, log_of, number_of, readings_in, retention_in, salt_in, sent_by, sent_in, space_in, unsent_in}
use Rattle.pool_instance.specs.Purging.{IsHeard}
use Rattle.pool_instance.specs.Request.{call_of}
use Rattle.pool_instance.specs.State.{AreOfBatch, AreRequests, IsAfter, IsInFlight, IsUpToDate}
use Rattle.pool_instance.specs.declared.instance.Instance.{Instance}
use Rattle.pool_instance.specs.declared.waiting.Held.{Held}
use Rattle.pool_instance.specs.declared.waiting.Reading.{Reading}
use Rattle.pool_instance.specs.declared.waiting.Stage.TheVariants.{Fresh}
use Rattle.pool_core.proofs.Histories.{continues_same}
use Rattle.pool_instance.proofs.Agreed.{AreAgreedThen, none_agreed, still_heard}
use Rattle.pool_instance.proofs.After.{AreQuiet, Stayed, did_nothing, goes_on, of_batch_less, requests_same, up_quiet}
use Rattle.pool_instance.proofs.Ends.{asks_then, change_ends, learns_then, reading_ends, slot_ends}
use Rattle.pool_instance.proofs.Pending.{IsNext, held_at, id_of_held, id_of_reading, ids_times, none_ended, none_offered, none_received, requests_next, slot_number, waiting_at}
use Rattle.pool_instance.proofs.Steps.{IsNoReceipt, ended_more, offered_more}
use Rattle.pool_instance.proofs.Times.{both, times_append, times_cons}

module _ {L S : Type 0} (gl : logs.Ghosts L) (gs : spaces.Ghosts S) where
  -- ---- by parts

  -- What is to show of more events, for an instance that was after some.
  pub record Next (start : Airspace) (events more : List InstanceEvent) (old new : Instance L S) : Type 0 where
    pub follows : gs.is_sound (space_in new) → AllMayFollow acts_of (salt_in old) start (gl.writer (log_of old)) events more
    pub up : is_ended new ≡ false → IsUpToDate gl gs start (events ++ more) new
    pub requests : AreRequests (events ++ more) (readings_in new) (unsent_in new) (sent_in new) new.received
    pub heard : IsHeard (gl.writer (log_of old)) (events ++ more) (heard_in new)
    pub agreed : AreAgreedThen (retention_in old) (gl.writer (log_of old)) events more

  pub did_by : (old new : Instance L S) (more : List InstanceEvent) → Stayed gl gs old new (log_events more) → (is_ended old ≡ true → is_ended new ≡ true) → count_received new ≡ count_received old + count_receipts more
      → ((past : Option (List LogEvent)) (start : Airspace) (events : List InstanceEvent) → IsAfter gl gs past start events old → Next start events more old new) → Did gl gs old more new
  did_by old new more stayed ends count next = record {
    after = λ past start events is.
        let n = next past start events is in
        goes_on gl gs past start events more old new is stayed n.follows n.up n.requests n.heard n.agreed;
    salt = stayed.salt;
    writer = stayed.writer;
    retention = stayed.retention;
    sound = stayed.sound;
    stays_ended = ends;
    received = count;
  }

  -- Holds if the instance made no call, and took no entry.
  pub record Kept (old new : Instance L S) (logged : List LogEvent) : Type 0 where
    pub service : new.service ≡ old.service
    pub history : Continues (gl.history (log_of old)) (gl.history (log_of new)) logged
    pub writer : gl.writer (log_of new) ≡ gl.writer (log_of old)
    pub taken : count_taken new ≡ count_taken old
    pub ended : is_ended new ≡ is_ended old
    pub retention : retention_in new ≡ retention_in old
    pub heard : heard_in new ≡ heard_in old

  pub kept_stayed : (old new : Instance L S) (logged : List LogEvent) → Kept old new logged → Stayed gl gs old new logged
  kept_stayed old new logged k = record {
    history = k.history;
    writer = k.writer;
    salt = ap (λ (v : Service S). salt_of v) k.service;
    retention = k.retention;
    sound = λ s. subst (λ (v : Service S). gs.is_sound (space_of v)) k.service s;
  }

  kept_up : (start : Airspace) (events more : List InstanceEvent) (old new : Instance L S) → Kept old new (log_events more) → AreQuiet (gl.writer (log_of old)) more → IsInFlight (gl.writer (log_of old)) events new.in_flight
      → IsUpToDate gl gs start events old → IsUpToDate gl gs start (events ++ more) new
  kept_up start events more old new k q flight up =
      up_quiet gl gs start events more old new (log_events more) (kept_stayed old new (log_events more) k) q up
      (ap (λ (v : Service S). is_shut v) k.service ∙ up.goes) k.taken
      (λ b s h. subst (λ (v : Service S). IsContent gs.holds (space_of v) b) (sym k.service) h) flight

  pub did_kept : (old new : Instance L S) (more : List InstanceEvent) → Kept old new (log_events more) → AreQuiet (gl.writer (log_of old)) more → count_received new ≡ count_received old + count_receipts more
      → ((events : List InstanceEvent) → IsInFlight (gl.writer (log_of old)) events old.in_flight → IsInFlight (gl.writer (log_of old)) events new.in_flight)
      → ((start : Airspace) (events : List InstanceEvent) → AreRequests events (readings_in old) (unsent_in old) (sent_in old) old.received → AllMayFollow acts_of (salt_in old) start (gl.writer (log_of old)) events more)
      → ((events : List InstanceEvent) → AreRequests events (readings_in old) (unsent_in old) (sent_in old) old.received → AreRequests (events ++ more) (readings_in new) (unsent_in new) (sent_in new) new.received)
      → Did gl gs old more new
  did_kept old new more k q count flight follows requests =
      did_by old new more (kept_stayed old new (log_events more) k) (λ h. k.ended ∙ h) count
      (λ past start events is. record {
        follows = λ s. follows start events is.requests;
        up = λ goes.
            let before : is_ended old ≡ false = sym k.ended ∙ goes in
            kept_up start events more old new k q (flight events (is.up_to_date before).flight) (is.up_to_date before);
        requests = requests events is.requests;
        heard = still_heard (gl.writer (log_of old)) events more (heard_in old) (heard_in new) k.heard is.heard;
        agreed = none_agreed (retention_in old) (gl.writer (log_of old)) events more q.offered;
      })

  -- ---- a request is received

  added_readings : (rs : List Reading) (hs : List Held) (slots : List (Option ℕ)) (r : Reading) (k : ℕ) → times k (ids_of (rs ++ r ∷ []) hs slots) ≡ times k (ids_of rs hs slots) + times k (r.held.id ∷ [])
  added_readings rs hs slots r k =
      let more : times k (map id_of_reading (rs ++ r ∷ [])) ≡ times k (map id_of_reading rs) + times k (r.held.id ∷ []) =
      ap (λ v. times k v) (map-append id_of_reading rs (r ∷ [])) ∙ times_append k (map id_of_reading rs) (r.held.id ∷ []) in
      omega (arith, more, ids_times k (rs ++ r ∷ []) hs slots, ids_times k rs hs slots)

  added_held : (rs : List Reading) (hs : List Held) (slots : List (Option ℕ)) (x : Held) (k : ℕ) → times k (ids_of rs (hs ++ x ∷ []) slots) ≡ times k (ids_of rs hs slots) + times k (x.id ∷ [])
  added_held rs hs slots x k =
      let more : times k (map id_of_held (hs ++ x ∷ [])) ≡ times k (map id_of_held hs) + times k (x.id ∷ []) =
      ap (λ v. times k v) (map-append id_of_held hs (x ∷ [])) ∙ times_append k (map id_of_held hs) (x.id ∷ []) in
      omega (arith, more, ids_times k rs (hs ++ x ∷ []) slots, ids_times k rs hs slots)

  reading_next : (events : List InstanceEvent) (rs : List Reading) (hs : List Held) (slots : List (Option ℕ)) (n : ℕ) (call : Call) (r : Reading) → AreRequests events rs hs slots n
      → r.held.id ≡ n → call_of r.held.request ≡ call → r.stage ≡ Fresh → AreRequests (events ++ Receives n call ∷ []) (rs ++ r ∷ []) hs slots (suc n)
  reading_next events rs hs slots n call r all id asks stage =
      requests_next events rs hs slots n all call (rs ++ r ∷ []) hs slots
      (λ x h. elim (Contains-push_cases rs r x h) [
        | inl old ↦ inl old
        | inr new ↦ inr (subst (λ (v : Reading). IsNext events rs hs slots n all call v.held × (v.stage ≡ Fresh)) new (record { id = id; asks = asks }, stage))
      ])
      (λ x h. inl h)
      (λ k. added_readings rs hs slots r k ∙ ap (λ v. times k (ids_of rs hs slots) + times k (v ∷ [])) id)

  change_next : (events : List InstanceEvent) (rs : List Reading) (hs : List Held) (slots : List (Option ℕ)) (n : ℕ) (call : Call) (x : Held) → AreRequests events rs hs slots n
      → x.id ≡ n → call_of x.request ≡ call → AreRequests (events ++ Receives n call ∷ []) rs (hs ++ x ∷ []) slots (suc n)
  change_next events rs hs slots n call x all id asks =
      requests_next events rs hs slots n all call rs (hs ++ x ∷ []) slots
      (λ r h. inl h)
      (λ y h. elim (Contains-push_cases hs x y h) [
        | inl old ↦ inl old
        | inr new ↦ inr (subst (λ (v : Held). IsNext events rs hs slots n all call v) new (record { id = id; asks = asks }))
      ])
      (λ k. added_held rs hs slots x k ∙ ap (λ v. times k (ids_of rs hs slots) + times k (v ∷ [])) id)

  receipt_follows : (start : Airspace) (me : ℕ) (salt : List ℕ) (events : List InstanceEvent) (rs : List Reading) (hs : List Held) (slots : List (Option ℕ)) (n : ℕ) (call : Call) → AreRequests events rs hs slots n
      → AllMayFollow acts_of salt start me events (Receives n call ∷ [])
  receipt_follows start me salt events rs hs slots n call all = (λ other h. none_received events rs hs slots n all other h, tt)

  receipt_quiet : (me n : ℕ) (call : Call) → AreQuiet me (Receives n call ∷ [])
  receipt_quiet me n call = record { given = refl; offered = refl }

  pub did_receive_reading : (old new : Instance L S) (call : Call) (r : Reading) → Kept old new [] → new.in_flight ≡ old.in_flight → readings_in new ≡ readings_in old ++ r ∷ [] → unsent_in new ≡ unsent_in old → new.received ≡ suc old.received
      → r.held.id ≡ old.received → call_of r.held.request ≡ call → r.stage ≡ Fresh → Did gl gs old (Receives old.received call ∷ []) new
  did_receive_reading old new call r k flight rs hs n id asks stage =
      let more = Receives old.received call ∷ [] in
      did_kept old new more k (receipt_quiet (gl.writer (log_of old)) old.received call) (omega (arith, n))
      (λ events h. subst (λ v. IsInFlight (gl.writer (log_of old)) events v) (sym flight) h)
      (λ start events all. receipt_follows start (gl.writer (log_of old)) (salt_in old) events (readings_in old) (unsent_in old) (sent_in old) old.received call all)
      (λ events all.
      requests_same (events ++ more) (events ++ more) (readings_in old ++ r ∷ []) (readings_in new) (unsent_in old) (unsent_in new) (sent_in old) (sent_in new) (suc old.received) new.received
      refl rs hs (ap (λ v. sent_by v) flight) n
      (reading_next events (readings_in old) (unsent_in old) (sent_in old) old.received call r all id asks stage))

  pub did_receive_change : (old new : Instance L S) (call : Call) (x : Held) → Kept old new [] → new.in_flight ≡ old.in_flight → readings_in new ≡ readings_in old → unsent_in new ≡ unsent_in old ++ x ∷ [] → new.received ≡ suc old.received
      → x.id ≡ old.received → call_of x.request ≡ call → Did gl gs old (Receives old.received call ∷ []) new
  did_receive_change old new call x k flight rs hs n id asks =
      let more = Receives old.received call ∷ [] in
      did_kept old new more k (receipt_quiet (gl.writer (log_of old)) old.received call) (omega (arith, n))
      (λ events h. subst (λ v. IsInFlight (gl.writer (log_of old)) events v) (sym flight) h)
      (λ start events all. receipt_follows start (gl.writer (log_of old)) (salt_in old) events (readings_in old) (unsent_in old) (sent_in old) old.received call all)
      (λ events all.
      requests_same (events ++ more) (events ++ more) (readings_in old) (readings_in new) (unsent_in old ++ x ∷ []) (unsent_in new) (sent_in old) (sent_in new) (suc old.received) new.received
      refl rs hs (ap (λ v. sent_by v) flight) n
      (change_next events (readings_in old) (unsent_in old) (sent_in old) old.received call x all id asks))

  -- ---- a request is denied at once

  answer_no_receipt : (id now : ℕ) (call : Call) (reply : Reply) → IsNoReceipt (Answers id (AtOnce (now, call)) reply)
  answer_no_receipt id now call reply k c h = cc

  denied_requests : (events : List InstanceEvent) (rs : List Reading) (hs : List Held) (slots : List (Option ℕ)) (n now : ℕ) (call : Call) (reply : Reply) → AreRequests events rs hs slots n
      → AreRequests (events ++ Receives n call ∷ Answers n (AtOnce (now, call)) reply ∷ []) rs hs slots (suc n)
  denied_requests events rs hs slots n now call reply all =
      let received : AreRequests (events ++ Receives n call ∷ []) rs hs (Some n ∷ slots) (suc n) =
      requests_next events rs hs slots n all call rs hs (Some n ∷ slots) (λ r h. inl h) (λ x h. inl h)
      (λ k. omega (arith, ids_times k rs hs (Some n ∷ slots), ids_times k rs hs slots, times_cons k n (flat_map number_of slots))) in
      let e = Answers n (AtOnce (now, call)) reply in
      let ended : AreRequests ((events ++ Receives n call ∷ []) ++ e ∷ []) rs hs (None ∷ slots) (suc n) =
      slot_ends (events ++ Receives n call ∷ []) e (answer_no_receipt n now call reply) refl rs hs [] n slots (suc n) received refl in
      subst (λ (v : List InstanceEvent). AreRequests v rs hs slots (suc n)) (append_assoc events (Receives n call ∷ []) (e ∷ []))
      (record {
        readings = ended.readings;
        unsent = ended.unsent;
        sent = λ id h. ended.sent id (Contains-append_right (None ∷ []) slots (Some id) h);
        kept = ended.kept;
        apart = ended.apart;
        offered = ended.offered;
        numbered = ended.numbered;
        ended_below = ended.ended_below;
        offered_below = ended.offered_below;
      })

  denied_follows : (start : Airspace) (me : ℕ) (salt : List ℕ) (events : List InstanceEvent) (rs : List Reading) (hs : List Held) (slots : List (Option ℕ)) (n now : ℕ) (call : Call) (rule : Rule)
      → ((a : Airspace) → find (breaks a now call) early_rules ≡ Some rule) → AreRequests events rs hs slots n
      → AllMayFollow acts_of salt start me events (Receives n call ∷ Answers n (AtOnce (now, call)) (Denied rule nothing_missing) ∷ [])
  denied_follows start me salt events rs hs slots n now call rule broken all = (
    λ other h. none_received events rs hs slots n all other h,
    (
      (
        record {
          received = Contains-push events (Receives n call);
          unended = omega (arith, ended_more n events (Receives n call), none_ended events rs hs slots n all);
        },
        record {
          unoffered = omega (arith, offered_more n events (Receives n call), none_offered events rs hs slots n all);
          is_policy = λ a. early_anywhere salt a a now call rule (broken a);
        },
      ),
      tt,
    ),
  )

  pub did_deny : (old new : Instance L S) (now : ℕ) (call : Call) (rule : Rule) (reply : Reply) → Kept old new [] → new.in_flight ≡ old.in_flight → readings_in new ≡ readings_in old → unsent_in new ≡ unsent_in old → new.received ≡ suc old.received
      → ((a : Airspace) → find (breaks a now call) early_rules ≡ Some rule) → reply ≡ Denied rule nothing_missing
      → Did gl gs old (Receives old.received call ∷ Answers old.received (AtOnce (now, call)) reply ∷ []) new
  did_deny old new now call rule reply k flight rs hs n broken is =
      let more = Receives old.received call ∷ Answers old.received (AtOnce (now, call)) reply ∷ [] in
      did_kept old new more k (record { given = refl; offered = refl }) (omega (arith, n))
      (λ events h. subst (λ v. IsInFlight (gl.writer (log_of old)) events v) (sym flight) h)
      (λ start events all.
      subst (λ (v : Reply). AllMayFollow acts_of (salt_in old) start (gl.writer (log_of old)) events (Receives old.received call ∷ Answers old.received (AtOnce (now, call)) v ∷ [])) (sym is)
      (denied_follows start (gl.writer (log_of old)) (salt_in old) events (readings_in old) (unsent_in old) (sent_in old) old.received now call rule broken all))
      (λ events all.
      requests_same (events ++ more) (events ++ more) (readings_in old) (readings_in new) (unsent_in old) (unsent_in new) (sent_in old) (sent_in new) (suc old.received) new.received
      refl rs hs (ap (λ v. sent_by v) flight) n
      (denied_requests events (readings_in old) (unsent_in old) (sent_in old) old.received now call reply all))

  -- ---- questions

  pub did_ask : (f : Bool) (old new : Instance L S) (q : ℕ) → Kept old new (AsksEnd q ∷ []) → new.in_flight ≡ old.in_flight → readings_in new ≡ map (asked f q) (readings_in old) → unsent_in new ≡ unsent_in old → new.received ≡ old.received
      → Did gl gs old (AsksForEnd q ∷ []) new
  did_ask f old new q k flight rs hs n =
      let more = AsksForEnd q ∷ [] in
      did_kept old new more k (record { given = refl; offered = refl }) (omega (arith, n))
      (λ events h. subst (λ v. IsInFlight (gl.writer (log_of old)) events v) (sym flight) h)
      (λ start events all. (tt, tt))
      (λ events all.
      requests_same (events ++ more) (events ++ more) (map (asked f q) (readings_in old)) (readings_in new) (unsent_in old) (unsent_in new) (sent_in old) (sent_in new) old.received new.received
      refl rs hs (ap (λ v. sent_by v) flight) n
      (asks_then f events q (readings_in old) (unsent_in old) (sent_in old) old.received all))

  pub did_learn : (old new : Instance L S) (q count : ℕ) → Kept old new (TellsEnd q count ∷ []) → new.in_flight ≡ old.in_flight → readings_in new ≡ map (told q count) (readings_in old) → unsent_in new ≡ unsent_in old → new.received ≡ old.received
      → Did gl gs old (LearnsEnd q count ∷ []) new
  did_learn old new q count k flight rs hs n =
      let more = LearnsEnd q count ∷ [] in
      did_kept old new more k (record { given = refl; offered = refl }) (omega (arith, n))
      (λ events h. subst (λ v. IsInFlight (gl.writer (log_of old)) events v) (sym flight) h)
      (λ start events all. (tt, tt))
      (λ events all.
      requests_same (events ++ more) (events ++ more) (map (told q count) (readings_in old)) (readings_in new) (unsent_in old) (unsent_in new) (sent_in old) (sent_in new) old.received new.received
      refl rs hs (ap (λ v. sent_by v) flight) n
      (learns_then events q count (readings_in old) (unsent_in old) (sent_in old) old.received all))

  -- ---- failures

  fails_no_receipt : (id : ℕ) → IsNoReceipt (Fails id)
  fails_no_receipt id k call h = cc

  drops_no_receipt : (id : ℕ) → IsNoReceipt (Drops id)
  drops_no_receipt id k call h = cc

  module _ (old new : Instance L S) (id : ℕ) (k : Kept old new []) (n : new.received ≡ old.received) where
    abbrev fails : List InstanceEvent
    fails = Fails id ∷ []

    fails_by : ((events : List InstanceEvent) → IsInFlight (gl.writer (log_of old)) events old.in_flight → IsInFlight (gl.writer (log_of old)) events new.in_flight)
        → ((events : List InstanceEvent) → AreRequests events (readings_in old) (unsent_in old) (sent_in old) old.received → (call : Call) × IsOpen events id call)
        → ((events : List InstanceEvent) → AreRequests events (readings_in old) (unsent_in old) (sent_in old) old.received → AreRequests (events ++ fails) (readings_in new) (unsent_in new) (sent_in new) new.received)
        → Did gl gs old fails new
    fails_by flight is_open requests =
        did_kept old new fails k (record { given = refl; offered = refl }) (omega (arith, n)) flight
        (λ start events all. (is_open events all, tt)) requests

    -- The same of a request that was never offered.
    abbrev drops : List InstanceEvent
    drops = Drops id ∷ []

    drops_by : ((events : List InstanceEvent) → IsInFlight (gl.writer (log_of old)) events old.in_flight → IsInFlight (gl.writer (log_of old)) events new.in_flight)
        → ((events : List InstanceEvent) → AreRequests events (readings_in old) (unsent_in old) (sent_in old) old.received → ((call : Call) × IsOpen events id call) × (times id (ids_offered events) ≡ 0))
        → ((events : List InstanceEvent) → AreRequests events (readings_in old) (unsent_in old) (sent_in old) old.received → AreRequests (events ++ drops) (readings_in new) (unsent_in new) (sent_in new) new.received)
        → Did gl gs old drops new
    drops_by flight is_dropped requests =
        did_kept old new drops k (record { given = refl; offered = refl }) (omega (arith, n)) flight
        (λ start events all. (is_dropped events all, tt)) requests

    pub did_fail_reading : new.in_flight ≡ old.in_flight → (front : List Reading) (r : Reading) (back : List Reading) → readings_in old ≡ front ++ r ∷ back → readings_in new ≡ front ++ back → unsent_in new ≡ unsent_in old → r.held.id ≡ id
        → Did gl gs old drops new
    did_fail_reading flight front r back was rs hs number =
        drops_by (λ events h. subst (λ v. IsInFlight (gl.writer (log_of old)) events v) (sym flight) h)
        (λ events all.
        let w = waiting_at events (readings_in old) (unsent_in old) (sent_in old) old.received all r (contains_same (readings_in old) (front ++ r ∷ back) r was (contains_at front r back)) in
        ((call_of r.held.request, subst (λ (v : ℕ). IsOpen events v (call_of r.held.request)) number w.held.opens), subst (λ (v : ℕ). times v (ids_offered events) ≡ 0) number w.held.unoffered))
        (λ events all.
        requests_same (events ++ drops) (events ++ drops) (front ++ back) (readings_in new) (unsent_in old) (unsent_in new) (sent_in old) (sent_in new) old.received new.received
        refl rs hs (ap (λ v. sent_by v) flight) n
        (reading_ends events (Drops id) (drops_no_receipt id) refl front r back (unsent_in old) (sent_in old) old.received
        (subst (λ (v : List Reading). AreRequests events v (unsent_in old) (sent_in old) old.received) was all) (ap (λ v. v ∷ []) (sym number))))

    pub did_fail_change : new.in_flight ≡ old.in_flight → (front : List Held) (x : Held) (back : List Held) → unsent_in old ≡ front ++ x ∷ back → unsent_in new ≡ front ++ back → readings_in new ≡ readings_in old → x.id ≡ id
        → Did gl gs old drops new
    did_fail_change flight front x back was hs rs number =
        drops_by (λ events h. subst (λ v. IsInFlight (gl.writer (log_of old)) events v) (sym flight) h)
        (λ events all.
        let w = held_at events (readings_in old) (unsent_in old) (sent_in old) old.received all x (contains_same (unsent_in old) (front ++ x ∷ back) x was (contains_at front x back)) in
        ((call_of x.request, subst (λ (v : ℕ). IsOpen events v (call_of x.request)) number w.opens), subst (λ (v : ℕ). times v (ids_offered events) ≡ 0) number w.unoffered))
        (λ events all.
        requests_same (events ++ drops) (events ++ drops) (readings_in old) (readings_in new) (front ++ back) (unsent_in new) (sent_in old) (sent_in new) old.received new.received
        refl rs hs (ap (λ v. sent_by v) flight) n
        (change_ends events (Drops id) (drops_no_receipt id) refl (readings_in old) front x back (sent_in old) old.received
        (subst (λ (v : List Held). AreRequests events (readings_in old) v (sent_in old) old.received) was all) (ap (λ v. v ∷ []) (sym number))))

    -- The parts of a batch in flight from which a request was removed.
    pub record Forgot (front back : List (Option ℕ)) : Type 0 where
      pub was : sent_in old ≡ front ++ Some id ∷ back
      pub is : sent_in new ≡ front ++ None ∷ back
      pub flight : (events : List InstanceEvent) → IsInFlight (gl.writer (log_of old)) events old.in_flight → IsInFlight (gl.writer (log_of old)) events new.in_flight

    pub did_fail_sent : (front back : List (Option ℕ)) → Forgot front back → readings_in new ≡ readings_in old → unsent_in new ≡ unsent_in old → Did gl gs old fails new
    did_fail_sent front back f rs hs =
        fails_by f.flight
        (λ events all. all.sent id (contains_same (sent_in old) (front ++ Some id ∷ back) (Some id) f.was (contains_at front (Some id) back)))
        (λ events all.
        requests_same (events ++ fails) (events ++ fails) (readings_in old) (readings_in new) (unsent_in old) (unsent_in new) (front ++ None ∷ back) (sent_in new) old.received new.received
        refl rs hs f.is n
        (slot_ends events (Fails id) (fails_no_receipt id) refl (readings_in old) (unsent_in old) front id back old.received
        (subst (λ (v : List (Option ℕ)). AreRequests events (readings_in old) (unsent_in old) v old.received) f.was all) refl))

  pub forgets_flight : {A : Type 0} (me id : ℕ) (old new : Option (Vec (Option ℕ) A)) → ForgetsIn id old new → (events : List InstanceEvent) → IsInFlight me events old → IsInFlight me events new
  forgets_flight me id None new f events h = absurd f
  forgets_flight me id (Some sent) None f events h = absurd f
  forgets_flight me id (Some sent) (Some left) f events h =
      let of : AreOfBatch (f.0 ++ None ∷ f.1.0) h.1.0.ids = of_batch_less f.0 f.1.0 (Some id) h.1.0.ids (subst (λ (v : List (Option ℕ)). AreOfBatch v h.1.0.ids) f.1.1 h.1.3) in
      (h.0, (h.1.0, h.1.1, h.1.2, subst (λ (v : List (Option ℕ)). AreOfBatch v h.1.0.ids) (sym f.1.2) of))

  -- ---- an end

  -- The instance has ended, and did nothing else with its requests.
  pub did_end : (old new : Instance L S) (more : List InstanceEvent) → Stayed gl gs old new (log_events more) → is_ended new ≡ true
      → readings_in new ≡ readings_in old → unsent_in new ≡ unsent_in old → sent_in new ≡ sent_in old → new.received ≡ old.received → heard_in new ≡ heard_in old → batches_offered (gl.writer (log_of old)) more ≡ [] → count_receipts more ≡ 0
      → ((start : Airspace) (events : List InstanceEvent) → AllMayFollow acts_of (salt_in old) start (gl.writer (log_of old)) events more)
      → ((events : List InstanceEvent) → AreRequests events (readings_in old) (unsent_in old) (sent_in old) old.received → AreRequests (events ++ more) (readings_in old) (unsent_in old) (sent_in old) old.received)
      → Did gl gs old more new
  did_end old new more stayed ended rs hs slots n same none quiet follows requests =
      did_by old new more stayed (λ h. ended) (omega (arith, n, quiet))
      (λ past start events is. record {
        follows = λ s. follows start events;
        up = λ goes. absurd (both (is_ended new) ended goes);
        requests =
            requests_same (events ++ more) (events ++ more) (readings_in old) (readings_in new) (unsent_in old) (unsent_in new) (sent_in old) (sent_in new) old.received new.received refl rs hs slots n (requests events is.requests);
        heard = still_heard (gl.writer (log_of old)) events more (heard_in old) (heard_in new) same is.heard;
        agreed = none_agreed (retention_in old) (gl.writer (log_of old)) events more none;
      })

  -- ---- a request of the batch in flight that is forgotten

  forgot_parts : {A : Type 0} (id : ℕ) (old new : Option (Vec (Option ℕ) A)) → ForgetsIn id old new → (front : List (Option ℕ)) × ((back : List (Option ℕ)) × (sent_by old ≡ front ++ Some id ∷ back) × (sent_by new ≡ front ++ None ∷ back))
  forgot_parts id None new f = absurd f
  forgot_parts id (Some sent) None f = absurd f
  forgot_parts id (Some sent) (Some left) f = f

  pub did_forget : (old new : Instance L S) (id : ℕ) → Forgets id old new true → Did gl gs old (Fails id ∷ []) new × Contains (ids_sent old) id
  did_forget old new id f =
      let p = forgot_parts id old.in_flight new.in_flight f.0 in
      let e = f.1 in
      let k : Kept old new [] = record {
        service = ap (λ (v : Instance L S). v.service) e;
        history = continues_same (gl.history (log_of old)) (gl.history (log_of new)) (ap (λ (v : Instance L S). gl.history (log_of v)) e);
        writer = ap (λ (v : Instance L S). gl.writer (log_of v)) e;
        taken = ap (λ (v : Instance L S). count_taken v) e;
        ended = ap (λ (v : Instance L S). is_ended v) e;
        retention = ap (λ (v : Instance L S). retention_in v) e;
        heard = ap (λ (v : Instance L S). heard_in v) e;
      } in (
        did_fail_sent old new id k (ap (λ (v : Instance L S). v.received) e) p.0 p.1.0 (record { was = p.1.1; is = p.1.2; flight = forgets_flight (gl.writer (log_of old)) id old.in_flight new.in_flight f.0 })
            (ap (λ (v : Instance L S). readings_in v) e) (ap (λ (v : Instance L S). unsent_in v) e),
        slot_number (sent_in old) id (contains_same (sent_in old) (p.0 ++ Some id ∷ p.1.0) (Some id) p.1.1 (contains_at p.0 (Some id) p.1.0)),
      )

  pub did_same : (old new : Instance L S) → new ≡ old → DidNothing gl gs old new
  did_same old new e =
      subst (λ (v : Instance L S). DidNothing gl gs old v) (sym e)
      (did_nothing gl gs old old (record { service = refl; history = refl; writer = refl; readings = refl; unsent = refl; in_flight = refl; taken = refl; received = refl; ended = λ h. h; retention = refl; heard = refl }))
