-- Lemmas: the state of an instance after more events.
use Rattle.std.proofs.Common.{◌≡◌, ◌==◌, ℕ, Bool, true, false, List, [], ◌∷◌, ◌++◌, length, Option, Some, None, refl, sym, ap, subst, ◌∙◌, arith}
use Rattle.std.specs.Prelude.{count_by}
use Rattle.std.specs.declared.vec.Vec.{Vec}
use Rattle.std.proofs.lemmas.List.{append-nil}
use Rattle.std.proofs.lemmas.List.Concat.{flat_map-append}
use Rattle.entity_core.specs.Airspace.{Airspace}
use Rattle.space_core.specs.Space.{IsContent}
use Rattle.space_core.specs.declared.space.Space as spaces
use Rattle.service_calls.specs.Held.{is_shut, salt_of, space_of}
use Rattle.pool_core.specs.Acts.{airspace_by}
use Rattle.service_calls.specs.declared.service.Service.{Service}
use Rattle.pool_core.specs.Events.{Batch, InstanceEvent, batches_offered, entries_given, log_events, log_events_in}
use Rattle.pool_core.specs.Log.{Continues, LogEntry, LogEvent}
use Rattle.pool_core.specs.Serves.{AllMayFollow, ServesPool, acts_in}
use Rattle.pool_core.specs.declared.log.Log as logs
use Rattle.pool_core.proofs.Histories.{continues_same, continues_then}
use Rattle.pool_core.proofs.Projections.{given_append, offered_append}
use Rattle.pool_core.proofs.Served.{serves_then}
use Rattle.pool_entry.specs.Acts.{acts_of}
use Rattle.pool_instance.specs.Does.{Did, DidNothing}
use Rattle.pool_instance.specs.Parts.{count_taken, heard_in, ids_in, ids_of, is_ended, log_of, readings_in, retention_in, salt_in, sent_by, sent_in, space_in, unsent_in}
use Rattle.pool_instance.specs.Purging.{AreAgreed, IsHeard}
use Rattle.pool_instance.specs.State.{AreOfBatch, AreRequests, IsAfter, IsInFlight, IsUpToDate, airspace_of, count_own}
use Rattle.pool_instance.specs.declared.instance.Instance.{Instance}
use Rattle.pool_instance.specs.declared.waiting.Held.{Held}
use Rattle.pool_instance.specs.declared.waiting.Reading.{Reading}
use Rattle.pool_instance.proofs.Agreed.{AreAgreedThen, agreed_append, none_agreed, still_heard}
use Rattle.pool_instance.proofs.Times.{both}

-- ---- histories

pub logged_append : (xs ys : List InstanceEvent) → log_events (xs ++ ys) ≡ log_events xs ++ log_events ys
logged_append xs ys = flat_map-append log_events_in xs ys

-- ---- the batch in flight

-- Holds if events give no entry and offer no batch.
pub record AreQuiet (me : ℕ) (more : List InstanceEvent) : Type 0 where
  pub given : entries_given more ≡ []
  pub offered : batches_offered me more ≡ []

pub given_quiet : (me : ℕ) (events more : List InstanceEvent) → AreQuiet me more → entries_given (events ++ more) ≡ entries_given events
given_quiet me events more q = given_append events more ∙ ap (λ v. entries_given events ++ v) q.given ∙ append-nil (entries_given events)

pub offered_quiet : (me : ℕ) (events more : List InstanceEvent) → AreQuiet me more → batches_offered me (events ++ more) ≡ batches_offered me events
offered_quiet me events more q = offered_append me events more ∙ ap (λ v. batches_offered me events ++ v) q.offered ∙ append-nil (batches_offered me events)

pub own_quiet : (me : ℕ) (events more : List InstanceEvent) → AreQuiet me more → count_own me (events ++ more) ≡ count_own me events
own_quiet me events more q = ap (λ (v : List LogEntry). count_by (λ entry. me == entry.writer) v) (given_quiet me events more q)

pub flight_quiet : {A : Type 0} (me : ℕ) (events more : List InstanceEvent) (f : Option (Vec (Option ℕ) A)) → AreQuiet me more → IsInFlight me events f → IsInFlight me (events ++ more) f
flight_quiet me events more None q h = ap (λ (v : List Batch). length v) (offered_quiet me events more q) ∙ h ∙ sym (own_quiet me events more q)
flight_quiet me events more (Some sent) q h = (h.0, (h.1.0, offered_quiet me events more q ∙ h.1.1, h.1.2 ∙ sym (own_quiet me events more q), h.1.3))

-- A request of the batch in flight that is forgotten.
pub of_batch_less : (front back : List (Option ℕ)) (slot : Option ℕ) (ids : List ℕ) → AreOfBatch (front ++ slot ∷ back) ids → AreOfBatch (front ++ None ∷ back) ids
of_batch_less [] back slot [] h = h
of_batch_less [] back None (id ∷ ids) h = h
of_batch_less [] back (Some k) (id ∷ ids) h = h.1
of_batch_less (f ∷ front) back slot [] h = h
of_batch_less (None ∷ front) back slot (id ∷ ids) h = of_batch_less front back slot ids h
of_batch_less (Some k ∷ front) back slot (id ∷ ids) h = (h.0, of_batch_less front back slot ids h.1)

-- ---- parts

pub still_goes : (b c : Bool) → (b ≡ true → c ≡ true) → c ≡ false → b ≡ false
still_goes true c h k = absurd (both c (h refl) k)
still_goes false c h k = refl

pub requests_same : (events later : List InstanceEvent) (rs rs' : List Reading) (hs hs' : List Held) (slots slots' : List (Option ℕ)) (n n' : ℕ) → later ≡ events → rs' ≡ rs → hs' ≡ hs → slots' ≡ slots → n' ≡ n
    → AreRequests events rs hs slots n → AreRequests later rs' hs' slots' n'
requests_same events later rs rs' hs hs' slots slots' n n' e r h s m all =
    subst (λ (v : List InstanceEvent). AreRequests v rs' hs' slots' n') (sym e)
    (subst (λ (v : List Reading). AreRequests events v hs' slots' n') (sym r)
    (subst (λ (v : List Held). AreRequests events rs v slots' n') (sym h)
    (subst (λ (v : List (Option ℕ)). AreRequests events rs hs v n') (sym s)
    (subst (λ (v : ℕ). AreRequests events rs hs slots v) (sym m) all))))

-- ---- instances

module _ {L S : Type 0} (gl : logs.Ghosts L) (gs : spaces.Ghosts S) where
  -- Holds if these parts of an instance stayed the same, and its log did this.
  pub record Stayed (old new : Instance L S) (logged : List LogEvent) : Type 0 where
    pub history : Continues (gl.history (log_of old)) (gl.history (log_of new)) logged
    pub writer : gl.writer (log_of new) ≡ gl.writer (log_of old)
    pub salt : salt_in new ≡ salt_in old
    pub retention : retention_in new ≡ retention_in old
    pub sound : gs.is_sound (space_in new) → gs.is_sound (space_in old)

  -- An instance that did more.
  pub goes_on : (past : Option (List LogEvent)) (start : Airspace) (events more : List InstanceEvent) (old new : Instance L S) → IsAfter gl gs past start events old → Stayed old new (log_events more)
      → (gs.is_sound (space_in new) → AllMayFollow acts_of (salt_in old) start (gl.writer (log_of old)) events more)
      → (is_ended new ≡ false → IsUpToDate gl gs start (events ++ more) new)
      → AreRequests (events ++ more) (readings_in new) (unsent_in new) (sent_in new) new.received
      → IsHeard (gl.writer (log_of old)) (events ++ more) (heard_in new)
      → AreAgreedThen (retention_in old) (gl.writer (log_of old)) events more
      → IsAfter gl gs past start (events ++ more) new
  goes_on past start events more old new is stayed follows up requests heard agreed = record {
    logged =
        subst (λ v. Continues past (gl.history (log_of new)) v) (sym (logged_append events more))
        (continues_then past (gl.history (log_of old)) (gl.history (log_of new)) (log_events events) (log_events more) is.logged stayed.history);
    serves = λ sound.
        subst (λ (v : ℕ). ServesPool acts_of (salt_in new) start v (events ++ more)) (sym stayed.writer)
        (subst (λ (v : List ℕ). ServesPool acts_of v start (gl.writer (log_of old)) (events ++ more)) (sym stayed.salt)
        (serves_then acts_of (salt_in old) start (gl.writer (log_of old)) events more (is.serves (stayed.sound sound)) (follows sound)));
    up_to_date = up;
    requests = requests;
    heard = subst (λ (v : ℕ). IsHeard v (events ++ more) (heard_in new)) (sym stayed.writer) heard;
    agreed =
        subst (λ (v : ℕ). AreAgreed (retention_in new) v (events ++ more)) (sym stayed.writer)
        (subst (λ (v : Option ℕ). AreAgreed v (gl.writer (log_of old)) (events ++ more)) (sym stayed.retention)
        (agreed_append (retention_in old) (gl.writer (log_of old)) events more is.agreed agreed));
  }

  -- The airspace after quiet events.
  pub airspace_quiet : (salt : List ℕ) (start : Airspace) (me : ℕ) (events more : List InstanceEvent) → AreQuiet me more → airspace_of salt start (events ++ more) ≡ airspace_of salt start events
  airspace_quiet salt start me events more q = ap (λ (v : List LogEntry). airspace_by salt start (acts_in acts_of v)) (given_quiet me events more q)

  -- An instance that did not take an entry, nor offer a batch.
  pub up_quiet : (start : Airspace) (events more : List InstanceEvent) (old new : Instance L S) (logged : List LogEvent) → Stayed old new logged → AreQuiet (gl.writer (log_of old)) more
      → IsUpToDate gl gs start events old
      → is_shut new.service ≡ false → count_taken new ≡ count_taken old
      → ((a : Airspace) → gs.is_sound (space_in new) → IsContent gs.holds (space_in old) a → IsContent gs.holds (space_in new) a)
      → IsInFlight (gl.writer (log_of old)) events new.in_flight
      → IsUpToDate gl gs start (events ++ more) new
  up_quiet start events more old new logged stayed q up goes taken content flight = record {
    goes = goes;
    taken = taken ∙ up.taken ∙ sym (ap (λ (v : List LogEntry). length v) (given_quiet (gl.writer (log_of old)) events more q));
    held = λ sound.
        let same : airspace_of (salt_in new) start (events ++ more) ≡ airspace_of (salt_in old) start events = ap (λ (v : List ℕ). airspace_of v start (events ++ more)) stayed.salt ∙ airspace_quiet (salt_in old) start (gl.writer (log_of old)) events more q in
        subst (λ (a : Airspace). IsContent gs.holds (space_in new) a) (sym same) (content (airspace_of (salt_in old) start events) sound (up.held (stayed.sound sound)));
    flight = subst (λ (v : ℕ). IsInFlight v (events ++ more) new.in_flight) (sym stayed.writer) (flight_quiet (gl.writer (log_of old)) events more new.in_flight q flight);
  }

  -- ---- nothing

  -- Holds if an instance differs from another in nothing that counts, but may have ended.
  pub record Alike (old new : Instance L S) : Type 0 where
    pub service : new.service ≡ old.service
    pub history : gl.history (log_of new) ≡ gl.history (log_of old)
    pub writer : gl.writer (log_of new) ≡ gl.writer (log_of old)
    pub readings : readings_in new ≡ readings_in old
    pub unsent : unsent_in new ≡ unsent_in old
    pub in_flight : new.in_flight ≡ old.in_flight
    pub taken : count_taken new ≡ count_taken old
    pub received : new.received ≡ old.received
    pub ended : is_ended old ≡ true → is_ended new ≡ true
    pub retention : retention_in new ≡ retention_in old
    pub heard : heard_in new ≡ heard_in old

  pub alike_stayed : (old new : Instance L S) → Alike old new → Stayed old new []
  alike_stayed old new a = record {
    history = continues_same (gl.history (log_of old)) (gl.history (log_of new)) a.history;
    writer = a.writer;
    salt = ap (λ (v : Service S). salt_of v) a.service;
    retention = a.retention;
    sound = λ s. subst (λ (v : Service S). gs.is_sound (space_of v)) a.service s;
  }

  alike_up : (start : Airspace) (events : List InstanceEvent) (old new : Instance L S) → Alike old new → IsUpToDate gl gs start events old → IsUpToDate gl gs start (events ++ []) new
  alike_up start events old new a up =
      up_quiet start events [] old new [] (alike_stayed old new a) (record { given = refl; offered = refl }) up
      (ap (λ (v : Service S). is_shut v) a.service ∙ up.goes) a.taken
      (λ b s h. subst (λ (v : Service S). IsContent gs.holds (space_of v) b) (sym a.service) h)
      (subst (λ v. IsInFlight (gl.writer (log_of old)) events v) (sym a.in_flight) up.flight)

  pub did_alike : (old new : Instance L S) → Alike old new → Did gl gs old [] new
  did_alike old new a = record {
    after = λ past start events is.
        goes_on past start events [] old new is (alike_stayed old new a) (λ s. tt)
        (λ goes. alike_up start events old new a (is.up_to_date (still_goes (is_ended old) (is_ended new) a.ended goes)))
        (requests_same events (events ++ []) (readings_in old) (readings_in new) (unsent_in old) (unsent_in new) (sent_in old) (sent_in new) old.received new.received
        (append-nil events) a.readings a.unsent (ap (λ v. sent_by v) a.in_flight) a.received is.requests)
        (still_heard (gl.writer (log_of old)) events [] (heard_in old) (heard_in new) a.heard is.heard)
        (none_agreed (retention_in old) (gl.writer (log_of old)) events [] refl);
    salt = ap (λ (v : Service S). salt_of v) a.service;
    writer = a.writer;
    retention = a.retention;
    sound = λ s. subst (λ (v : Service S). gs.is_sound (space_of v)) a.service s;
    stays_ended = a.ended;
    received = omega (arith, a.received);
  }

  pub ids_alike : (old new : Instance L S) → Alike old new → ids_in new ≡ ids_in old
  ids_alike old new a =
      ap (λ v. ids_of v (unsent_in new) (sent_in new)) a.readings ∙ ap (λ v. ids_of (readings_in old) v (sent_in new)) a.unsent
      ∙ ap (λ v. ids_of (readings_in old) (unsent_in old) (sent_by v)) a.in_flight

  pub did_nothing : (old new : Instance L S) → Alike old new → DidNothing gl gs old new
  did_nothing old new a = record { did = did_alike old new a; same = ids_alike old new a; taken = a.taken }
