-- How the events of one client follow one another, and what a connection's next step is among them.
use Rattle.std.proofs.Common.{◌≡◌, ℕ, ◌<◌, ◌==◌, ◌||◌, ◌∷◌, ◌++◌, Bool, true, false, List, [], Option, Some, None, Result, Ok, Err, drop, is_err, is_some, map, refl, sym, ap, subst, ◌∙◌, inl, inr}
use Rattle.std.specs.Prelude.{MatchResult}
use Rattle.std.specs.List.{flat_map}
use Rattle.std.proofs.lemmas.List.{append-nil}
use Rattle.std.proofs.lemmas.List.Concat.{flat_map-append}
use Rattle.token_conf.specs.TokenFile.{Callers, TokenFile, callers_of}
use Rattle.policy_core.specs.declared.call.Call.{Call}
use Rattle.policy_core.specs.declared.scope.Caller.{Caller}
use Rattle.wire_head.specs.Target.{path_of}
use Rattle.wire_operation.specs.Asked.{IsAsked}
use Rattle.wire_http.specs.declared.connection.Connection.{Connection}
use Rattle.wire_http.specs.declared.connection.next.NextRequest.{NextRequest}
use Rattle.wire_http.specs.declared.end.End.{End}
use Rattle.wire_http.specs.declared.explaining.Explaining.{Explaining}
use Rattle.wire_http.specs.declared.moments.Moments as moments
use Rattle.wire_http.specs.Connection.{awaited_of, buffered_of, is_done, is_waiting, left_of}
use Rattle.wire_http.specs.Count.{one_more}
use Rattle.wire_http.specs.NextRequest.{EndsStream}
use Rattle.wire_http.specs.NextRequest.{GivesRequest, IsFront, LosesNext, NeedsMore, body_in, call_in, closes_after, endpoint_in, method_in, path_in, size_in}
use Rattle.wire_http.specs.Unread.{IsMadeFor}
use Rattle.wire_http.specs.Wire.{AsksCall, RequestCall}
use Rattle.server_base.specs.History.{Extends, HistoryEvent}
use Rattle.server_base.proofs.Histories.{extends_none, extends_same, extends_then}
use Rattle.server_backend.specs.BackendEvent.{Receives as Takes}
use Rattle.server_backend.specs.Request.{IsRequestFor}
use Rattle.server_backend.specs.declared.backend.Backend as backends
use Rattle.server_backend.specs.declared.outcome.Received.{Received}
use Rattle.server_backend.specs.declared.request.Request.{Request}
use Rattle.server_clients.specs.ClientEvents.{Asks, ClientEvent, ClientRuns, EndsStream as Ends, OccurAll, Occurs, ReadsClock, ReadsOnceAs, ServedClient, Steps, history_of_event, served_client}
use Rattle.server_clients.specs.ClientIo.{state_of}
use Rattle.server_clients.specs.ClientState.{Aborts, ClientState, ClientStep, ClientSteps, StepsBy, aborted, after_asking, finished, history_of_step, received_as}
use Rattle.server_clients.specs.Offered.{LosesOffer, OffersNext, PutsAs, after_offering, slot_with}
use Rattle.server_clients.specs.Texts.{RequestTexts}
use Rattle.server_clients.specs.declared.reason.Reason.{Reason}
use Rattle.server_clients.specs.declared.reason.Reason.TheVariants as reasons
use Rattle.server_clients.proofs.Served.{event_name}
use Rattle.server_clients.proofs.States.{IsFree, finished_state, is_free, stopped_state, waits_none}
use Rattle.server_clients.proofs.Steps.{io_same}

-- ---- the request that the backend receives

-- The call that is made for the next request is that of its parts, or one that is denied alike.
pub is_request : (r : Request) (callers : Callers) (left : ℕ) (bytes : List ℕ) (next : NextRequest) → IsFront callers left bytes next → r.call.now ≡ call_in next
    → r.method.now ≡ method_in bytes next → r.path.now ≡ path_in bytes next → r.body.now ≡ body_in bytes next → IsRequestFor r
is_request r callers left bytes next front call method path body = (
  front.call.op,
  (
    endpoint_in next,
    subst (λ (v : List ℕ). IsAsked v r.method.now r.body.now (endpoint_in next) front.call.op) (sym (path ∙ front.path))
        (subst (λ (v : List ℕ). IsAsked (path_of front.head.target) v r.body.now (endpoint_in next) front.call.op) (sym (method ∙ front.method))
        (subst (λ (v : List ℕ). IsAsked (path_of front.head.target) front.head.method v (endpoint_in next) front.call.op) (sym (body ∙ front.body_is)) front.is_call.op)),
  ),
  subst (λ (v : Call). IsMadeFor v (record { caller = v.caller; op = front.call.op })) (sym call)
      (subst (λ (v : Option Caller). IsMadeFor (call_in next) (record { caller = v; op = front.call.op })) (sym front.made.caller) front.made),
)

module _ {B M : Type 0} (b : backends.Ghosts B) (m : moments.Ghosts M) (explaining : Explaining) (table : TokenFile) where
  all_then : (xs ys : List ClientEvent) (old mid new : ServedClient B M) → OccurAll b m explaining table xs old mid → OccurAll b m explaining table ys mid new → OccurAll b m explaining table (xs ++ ys) old new
  all_then [] ys old mid new h q = subst (λ (v : ServedClient B M). OccurAll b m explaining table ys v new) h q
  all_then (x ∷ xs) ys old mid new h q = (h.0, h.1, all_then xs ys h.0 mid new h.2 q)

  pub all_name : (xs : List ClientEvent) (old new : ServedClient B M) → OccurAll b m explaining table xs old new → new.client.name ≡ old.client.name
  all_name [] old new h = ap (λ (v : ServedClient B M). v.client.name) h
  all_name (x ∷ xs) old new h = all_name xs h.0 new h.2 ∙ event_name b m explaining table x old h.0 h.1

  pub runs_none : (s : ServedClient B M) (past now : Option (List HistoryEvent)) → now ≡ past → ClientRuns b m explaining table s s past now
  runs_none s past now same = record { events = []; occur = refl; history = extends_same past now same }

  pub runs_then : (old mid new : ServedClient B M) (past between now : Option (List HistoryEvent)) → ClientRuns b m explaining table old mid past between → ClientRuns b m explaining table mid new between now
      → ClientRuns b m explaining table old new past now
  runs_then old mid new past between now p q =
      let name = old.client.name in
      record {
        events = p.events ++ q.events;
        occur = all_then p.events q.events old mid new p.occur q.occur;
        history = subst (λ (v : List HistoryEvent). Extends past now v) (sym (flat_map-append (history_of_event name) p.events q.events))
            (extends_then past between now (flat_map (history_of_event name) p.events) (flat_map (history_of_event name) q.events) p.history
            (subst (λ (n : ℕ). Extends between now (flat_map (history_of_event n) q.events)) (all_name p.events old mid p.occur) q.history));
      }

  steps_occur : (xs : List ClientStep) (s : B) (c : M) (l l' : ClientState) → StepsBy xs l l' → OccurAll b m explaining table (map (λ x. Steps x) xs) (served_client s c l) (served_client s c l')
  steps_occur [] s c l l' h = ap (λ (v : ClientState). served_client s c v) h
  steps_occur (x ∷ xs) s c l l' h = (served_client s c h.0, (h.0, h.1, refl), steps_occur xs s c h.0 l' h.2)

  steps_recorded : (name : ℕ) (xs : List ClientStep) → flat_map (history_of_event name) (map (λ x. Steps x) xs) ≡ flat_map (history_of_step name) xs
  steps_recorded name [] = refl
  steps_recorded name (x ∷ xs) = ap (λ (v : List HistoryEvent). history_of_step name x ++ v) (steps_recorded name xs)

  pub runs_steps : (s : B) (c : M) (l l' : ClientState) (past now : Option (List HistoryEvent)) → ClientSteps l l' past now
      → ClientRuns b m explaining table (served_client s c l) (served_client s c l') past now
  runs_steps s c l l' past now h = record {
    events = map (λ x. Steps x) h.steps;
    occur = steps_occur h.steps s c l l' h.by;
    history = subst (λ (v : List HistoryEvent). Extends past now v) (sym (steps_recorded l.name h.steps)) h.history;
  }

  -- One event that the history does not record.
  once : (x : ClientEvent) (old new : ServedClient B M) (past : Option (List HistoryEvent)) → history_of_event old.client.name x ≡ [] → Occurs b m explaining table x old new
      → ClientRuns b m explaining table old new past past
  once x old new past none h = record {
    events = x ∷ [];
    occur = (new, h, refl);
    history = subst (λ (v : List HistoryEvent). Extends past past v) (sym (append-nil (history_of_event old.client.name x) ∙ none)) (extends_none past);
  }

  -- Nothing changed.
  pub still_runs : (s : B) (clock : M) (l l' : ClientState) → l' ≡ l → (past : Option (List HistoryEvent)) → ClientRuns b m explaining table (served_client s clock l) (served_client s clock l') past past
  still_runs s clock l l' same past = record { events = []; occur = ap (λ (v : ClientState). served_client s clock v) same; history = extends_none past }

  -- The client was stopped.
  pub abort_runs : (s : B) (clock : M) (l l' : ClientState) (reason : Reason) → l' ≡ aborted l reason → (past : Option (List HistoryEvent)) → ClientRuns b m explaining table (served_client s clock l) (served_client s clock l') past past
  abort_runs s clock l l' reason same past = once (Steps (Aborts reason)) (served_client s clock l) (served_client s clock l') past refl (l', same, refl)

  -- The clock was read, and the client was stopped.
  pub read_runs : (moment : Option ℕ) (s : B) (clock clock' : M) (l l' : ClientState) (reason : Reason) → ReadsOnceAs m moment clock clock' → l' ≡ aborted l reason → (past : Option (List HistoryEvent))
      → ClientRuns b m explaining table (served_client s clock l) (served_client s clock' l') past past
  read_runs moment s clock clock' l l' reason reads same past =
      runs_then (served_client s clock l) (served_client s clock' l) (served_client s clock' l') past past past
      (once (ReadsClock moment) (served_client s clock l) (served_client s clock' l) past refl (clock', reads, refl))
      (abort_runs s clock' l l' reason same past)

  -- The stream ended.
  pub end_runs : (s : B) (clock : M) (name : ℕ) (ticket : Option ℕ) (why : Option Reason) (c c' : Connection) (end : End) (l' : ClientState) → (is_some why || is_done c) ≡ false → IsFree c → EndsStream c c' end
      → l' ≡ finished (state_of name ticket why c) end → (past : Option (List HistoryEvent))
      → ClientRuns b m explaining table (served_client s clock (state_of name ticket why c)) (served_client s clock l') past past
  end_runs s clock name ticket why c c' end l' running free h same past =
      once (Ends end) (served_client s clock (state_of name ticket why c)) (served_client s clock l') past refl
      (running, waits_none ticket c free.slot free.awaited, h.finishes, ap (λ (v : ClientState). served_client s clock v) same)

  module _ (name : ℕ) (ticket : Option ℕ) (why : Option Reason) (c : Connection) (next : NextRequest) (running : (is_some why || is_done c) ≡ false) (free : IsFree c) (some : 0 < left_of c)
      (front : IsFront (callers_of table) (left_of c) (buffered_of c) next) (moment : ℕ) (clock clock' : M) (gives : m.gives clock moment clock') where
    abbrev asked : RequestCall
    asked = record { head = front.head; endpoint = endpoint_in next; moment = moment; call = front.call; closing = closes_after next }

    abbrev l : ClientState
    l = state_of name ticket why c

    asks : (later : List ℕ) → AsksCall m.gives (callers_of table) (buffered_of c ++ later) clock asked (drop (size_in next) (buffered_of c) ++ later) clock'
    asks later = record { body = front.body; request = front.request later; call = front.is_call; moment = gives; next_is = front.rest later }

    same_after : (lost : Bool) (received : Received) (texts : RequestTexts) → after_offering lost next received texts l ≡ after_asking lost asked received texts (drop (size_in next) (buffered_of c)) l
    same_after true received texts = refl
    same_after false received texts = ap (λ (n : ℕ). received_as received (slot_with next texts) (record l { held = drop (size_in next) (buffered_of c); left = n })) front.count

    -- The backend received the next request.
    pub offer_runs : (old new : B) (lost : Bool) (l' : ClientState) → OffersNext b explaining moment next old new l l' lost → (past : Option (List HistoryEvent))
        → ClientRuns b m explaining table (served_client old clock l) (served_client new clock' l') past past
    offer_runs old new lost l' h past =
        once (Asks asked (call_in next) h.received h.puts.texts lost) (served_client old clock l) (served_client new clock' l') past refl (
          drop (size_in next) (buffered_of c),
          clock',
          new,
          record {
            is_running = running;
            some = some;
            none_waits = waits_none ticket c free.slot free.awaited;
            closing = ap (λ (n : ℕ). n == 0) front.count;
            asks = asks;
            made_for = front.made;
            texts_are = h.puts.may_have;
          },
          h.steps,
          ap (λ (v : ClientState). served_client new clock' v) (h.puts.state ∙ same_after lost h.received h.puts.texts),
        )

    -- Memory ran out.
    pub lose_runs : (old new : B) (l' : ClientState) → LosesOffer b explaining moment next old new l l' → (past : Option (List HistoryEvent))
        → ClientRuns b m explaining table (served_client old clock l) (served_client new clock' l') past past
    lose_runs old new l' h past =
        elim h [
          | inl offers ↦ offer_runs old new true l' offers past
          | inr unasked ↦ subst (λ (v : B). ClientRuns b m explaining table (served_client old clock l) (served_client v clock' l') past past) (sym unasked.0)
              (read_runs (Some moment) old clock clock' l l' reasons.Memory gives unasked.1 past)
        ]

-- ---- the next step of a connection

-- What the backend did with a request, by what its response became.
pub offered : {B E : Type 0} (b : backends.Ghosts B) (explaining : Explaining) (moment : ℕ) (next : NextRequest) (old new : B) (l l' : ClientState) (received : Received) (told : Result (Unit {0}) E)
    → b.steps old (Takes moment (call_in next) received) new → PutsAs explaining next received (is_err told) l l'
    → MatchResult told (λ _. OffersNext b explaining moment next old new l l' false) (λ _. LosesOffer b explaining moment next old new l l')
offered b explaining moment next old new l l' received (Ok x) steps puts = record { received = received; steps = steps; puts = puts }
offered b explaining moment next old new l l' received (Err e) steps puts = inl (record { received = received; steps = steps; puts = puts })

pub still_free : (callers : Callers) (c c1 : Connection) (next : NextRequest) → GivesRequest callers c c1 next → is_waiting c ≡ false → is_waiting c1 ≡ false
still_free callers c c1 next found none = subst (λ (v : Connection). is_waiting v ≡ false) (sym found.same) none

pub still_front : (callers : Callers) (c c1 : Connection) (next : NextRequest) → GivesRequest callers c c1 next → IsFront callers (left_of c1) (buffered_of c1) next
still_front callers c c1 next found = subst (λ (v : Connection). IsFront callers (left_of v) (buffered_of v) next) (sym found.same) found.front

module _ {B M : Type 0} (b : backends.Ghosts B) (m : moments.Ghosts M) (explaining : Explaining) (table : TokenFile) (name : ℕ) (ticket : Option ℕ) (why : Option Reason) (c c1 : Connection)
    (running : (is_some why || is_done c) ≡ false) (none : is_waiting c ≡ false) where
  pub asked_more : (s : B) (clock : M) → NeedsMore c c1 → awaited_of c1 ≡ awaited_of c → (past : Option (List HistoryEvent))
      → ClientRuns b m explaining table (served_client s clock (state_of name ticket why c)) (served_client s clock (state_of name ticket why c1)) past past
  asked_more s clock needs awaited past =
      let same = needs.same in
      still_runs b m explaining table s clock (state_of name ticket why c) (state_of name ticket why c1)
      (io_same name ticket why c c1 (record { held_is = same.held; ended_is = same.ended; left_is = same.left; output = same.output; ready = same.ready; slot = same.slot; awaited = awaited; done = same.done })) past

  pub asked_end : (s : B) (clock : M) (end : End) → EndsStream c c1 end → awaited_of c1 ≡ awaited_of c → (past : Option (List HistoryEvent))
      → ClientRuns b m explaining table (served_client s clock (state_of name ticket why c)) (served_client s clock (state_of name ticket why c1)) past past
  asked_end s clock end ends awaited past =
      let free = is_free c none in
      end_runs b m explaining table s clock name ticket why c c1 end (state_of name ticket why c1) running free ends (finished_state name ticket ticket why c c1 free end ends awaited) past

  pub asked_none : (s : B) (clock : M) → LosesNext c c1 → (past : Option (List HistoryEvent))
      → ClientRuns b m explaining table (served_client s clock (state_of name ticket why c)) (served_client s clock (state_of name ticket (Some reasons.Memory) c1)) past past
  asked_none s clock loses past =
      abort_runs b m explaining table s clock (state_of name ticket why c) (state_of name ticket (Some reasons.Memory) c1) reasons.Memory (stopped_state name ticket ticket why c c1 (is_free c none) loses.stopped reasons.Memory) past

  module _ (next : NextRequest) (found : GivesRequest (callers_of table) c c1 next) where
    -- The clock failed.
    pub asked_no_time : (s : B) (clock clock' : M) → m.failures clock' ≡ one_more (m.failures clock) → (past : Option (List HistoryEvent))
        → ClientRuns b m explaining table (served_client s clock (state_of name ticket why c)) (served_client s clock' (state_of name ticket (Some reasons.Clock) c1)) past past
    asked_no_time s clock clock' failed past =
        read_runs b m explaining table None s clock clock' (state_of name ticket why c) (state_of name ticket (Some reasons.Clock) c1) reasons.Clock failed
        (ap (λ (v : Connection). state_of name ticket (Some reasons.Clock) v) found.same) past

    module _ (moment : ℕ) (old new : B) (clock clock' : M) (gives : m.gives clock moment clock') (l' : ClientState) where
      pub asked_received : OffersNext b explaining moment next old new (state_of name ticket why c1) l' false → (past : Option (List HistoryEvent))
          → ClientRuns b m explaining table (served_client old clock (state_of name ticket why c)) (served_client new clock' l') past past
      asked_received offers past =
          offer_runs b m explaining table name ticket why c next running (is_free c none) found.some found.front moment clock clock' gives old new false l'
          (subst (λ (v : Connection). OffersNext b explaining moment next old new (state_of name ticket why v) l' false) found.same offers) past

      pub asked_lost : LosesOffer b explaining moment next old new (state_of name ticket why c1) l' → (past : Option (List HistoryEvent))
          → ClientRuns b m explaining table (served_client old clock (state_of name ticket why c)) (served_client new clock' l') past past
      asked_lost loses past =
          lose_runs b m explaining table name ticket why c next running (is_free c none) found.some found.front moment clock clock' gives old new l'
          (subst (λ (v : Connection). LosesOffer b explaining moment next old new (state_of name ticket why v) l') found.same loses) past
