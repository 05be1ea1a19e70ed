-- The requests of a client are the first in its bytes, in order.
use Rattle.std.proofs.Common.{◌≡◌, ◌<◌, ◌-◌, ◌==◌, ◌||◌, ℕ, zero, suc, min, Bool, true, false, List, [], ◌∷◌, ◌++◌, Option, Some, None, option_map, if◌then◌else◌, refl, sym, ap, subst, ◌∙◌, append_assoc, arith}
use Rattle.std.specs.Prelude.{nat_eq}
use Rattle.std.specs.List.{flat_map}
use Rattle.std.proofs.lemmas.List.{append-nil}
use Rattle.policy_core.specs.declared.call.Call.{Call}
use Rattle.token_conf.specs.TokenFile.{Callers, TokenFile, callers_of}
use Rattle.wire_http.specs.Count.{max_requests}
use Rattle.wire_http.specs.Moments.{AnyMoment}
use Rattle.wire_http.specs.Wire.{AsksCall, RequestCall, left_after}
use Rattle.wire_http.specs.declared.explaining.Explaining.{Explaining}
use Rattle.wire_http.specs.declared.moments.Moments as moments
use Rattle.server_watch.specs.declared.token_watch.TokenSource as sources
use Rattle.server_backend.specs.declared.backend.Backend as backends
use Rattle.server_backend.specs.declared.outcome.Outcome.{Outcome}
use Rattle.server_backend.specs.declared.outcome.Received.{Received}
use Rattle.server_backend.specs.declared.outcome.Received.TheVariants as came
use Rattle.server_clients.specs.CallOrder.{IsInOrder, LeadsBy, LetsOneCome, LosesResponse, OrderedEvent, Requests, RequestsAreAskedInOrder, events_for, has_loss, has_request, ordered_by, ordered_of, received_by, received_from, table_after}
use Rattle.server_clients.specs.ClientEvents.{Asks, ClientEvent, EndsStream, IsAskedFor, Occurs, ReadsClock, ServedClient, Steps}
use Rattle.server_clients.specs.ClientState.{Aborts, ClientState, ClientStep, Discards, Limits, Receives, ReceivesEnd, Sends, StepsTo, Waiting, after_asking, new_client, resolved, told, told_if}
use Rattle.server_clients.specs.Clients.{StaysOpen, closes}
use Rattle.server_clients.specs.ServerEvents.{Accepts, Acts, Closes, Confirms, FollowAll, Follows, Looks, Moves, Refuses, ServerEvent, ServerState, Setup, Stops, Tells, Works}
use Rattle.server_clients.specs.Texts.{RequestTexts}
use Rattle.server_clients.proofs.Keys.{at_other, at_same, beside, by_cases, same_client}

-- ---- one more request, loss or limit

-- One more request.
one_more_asked : (callers : Callers) (asked : RequestCall) (next : List ℕ) (bound n : ℕ) (rest left : List ℕ) (all : List OrderedEvent) → 0 < n → has_loss all ≡ false → LeadsBy bound rest all n left
    → AsksCall AnyMoment callers left tt asked next tt → asked.closing ≡ (left_after (n - 1) asked.head == 0)
    → LeadsBy bound rest (all ++ Requests callers asked ∷ []) (left_after (n - 1) asked.head) next
one_more_asked callers asked next zero n rest left [] some none h asks closing = absurd (omega (arith, some, h.0))
one_more_asked callers asked next (suc bound) n rest left [] some none h asks closing =
    let fewer : n - 1 ≡ bound = omega (arith, h.0) in (
      next,
      subst (λ (v : List ℕ). AsksCall AnyMoment callers v tt asked next tt) h.1 asks,
      closing ∙ ap (λ k. left_after k asked.head == 0) fewer,
      (ap (λ k. left_after k asked.head) fewer, refl),
    )
one_more_asked callers asked next bound n rest left (LetsOneCome ∷ more) some none h asks closing = one_more_asked callers asked next (min bound 1) n rest left more some none h asks closing
one_more_asked callers asked next zero n rest left (Requests by call ∷ more) some none h asks closing = absurd h
one_more_asked callers asked next (suc bound) n rest left (Requests by call ∷ more) some none h asks closing =
    (h.0, h.1, h.2, one_more_asked callers asked next (left_after bound call.head) n h.0 left more some none h.3 asks closing)
one_more_asked callers asked next bound n rest left (LosesResponse by call ∷ more) some none h asks closing = absurd (let is : true ≡ false = none in cc)

-- One more request, whose response is lost.
one_more_lost : (callers : Callers) (asked : RequestCall) (next : List ℕ) (bound n : ℕ) (rest left : List ℕ) (all : List OrderedEvent) → 0 < n → has_loss all ≡ false → LeadsBy bound rest all n left
    → AsksCall AnyMoment callers left tt asked next tt → asked.closing ≡ (left_after (n - 1) asked.head == 0)
    → LeadsBy bound rest (all ++ LosesResponse callers asked ∷ []) n left
one_more_lost callers asked next zero n rest left [] some none h asks closing = absurd (omega (arith, some, h.0))
one_more_lost callers asked next (suc bound) n rest left [] some none h asks closing =
    let fewer : n - 1 ≡ bound = omega (arith, h.0) in (
      next,
      subst (λ (v : List ℕ). AsksCall AnyMoment callers v tt asked next tt) h.1 asks,
      closing ∙ ap (λ k. left_after k asked.head == 0) fewer,
      refl,
      h,
    )
one_more_lost callers asked next bound n rest left (LetsOneCome ∷ more) some none h asks closing = one_more_lost callers asked next (min bound 1) n rest left more some none h asks closing
one_more_lost callers asked next zero n rest left (Requests by call ∷ more) some none h asks closing = absurd h
one_more_lost callers asked next (suc bound) n rest left (Requests by call ∷ more) some none h asks closing =
    (h.0, h.1, h.2, one_more_lost callers asked next (left_after bound call.head) n h.0 left more some none h.3 asks closing)
one_more_lost callers asked next bound n rest left (LosesResponse by call ∷ more) some none h asks closing = absurd (let is : true ≡ false = none in cc)

limit_asks : (more : List OrderedEvent) → has_request (more ++ LetsOneCome ∷ []) ≡ has_request more
limit_asks [] = refl
limit_asks (Requests by call ∷ more) = refl
limit_asks (LosesResponse by call ∷ more) = refl
limit_asks (LetsOneCome ∷ more) = limit_asks more

-- A limit after the requests.
then_limited : (bound n : ℕ) (rest left : List ℕ) (all : List OrderedEvent) → LeadsBy bound rest all n left → LeadsBy bound rest (all ++ LetsOneCome ∷ []) (min n 1) left
then_limited bound n rest left [] h = (ap (λ k. min k 1) h.0, h.1)
then_limited bound n rest left (LetsOneCome ∷ more) h = then_limited (min bound 1) n rest left more h
then_limited zero n rest left (Requests by call ∷ more) h = absurd h
then_limited (suc bound) n rest left (Requests by call ∷ more) h = (h.0, h.1, h.2, then_limited (left_after bound call.head) n h.0 left more h.3)
then_limited zero n rest left (LosesResponse by call ∷ more) h = absurd h
then_limited (suc bound) n rest left (LosesResponse by call ∷ more) h = (h.0, h.1, h.2, limit_asks more ∙ h.3, then_limited (suc bound) n rest left more h.4)

loss_in : (xs ys : List OrderedEvent) → has_loss (xs ++ ys) ≡ (has_loss xs || has_loss ys)
loss_in [] ys = refl
loss_in (Requests by call ∷ xs) ys = loss_in xs ys
loss_in (LosesResponse by call ∷ xs) ys = refl
loss_in (LetsOneCome ∷ xs) ys = loss_in xs ys

or_none : (x : Bool) → (x || false) ≡ x
or_none true = refl
or_none false = refl

-- ---- one event of the client

abbrev Ordered : (received : List ℕ) (all : List OrderedEvent) → Callers → ClientEvent → ClientState → Type 0
Ordered received all callers event l' = IsInOrder (received ++ received_by event) (all ++ ordered_by callers event) l'

-- A state with the same buffered bytes and as many requests to come, after an event without any.
alike : (received : List ℕ) (all : List OrderedEvent) (l l' : ClientState) → l'.held ≡ l.held → l'.left ≡ l.left → (l.done ≡ true → l'.done ≡ true) → IsInOrder received all l → IsInOrder (received ++ []) (all ++ []) l'
alike received all l l' held left stays p =
    subst (λ (v : List ℕ). IsInOrder v (all ++ []) l') (sym (append-nil received))
    (subst (λ (v : List OrderedEvent). IsInOrder received v l') (sym (append-nil all)) (record {
      leads = λ later.
          subst (λ (v : List ℕ). LeadsBy max_requests (received ++ later) all l'.left (v ++ later)) (sym held)
          (subst (λ (n : ℕ). LeadsBy max_requests (received ++ later) all n (l.held ++ later)) (sym left) (p.leads later));
      stops = λ lost. stays (p.stops lost);
    }))

done_as : (l l' : ClientState) → l'.done ≡ l.done → l.done ≡ true → l'.done ≡ true
done_as l l' same h = same ∙ h

step_in_order : (received : List ℕ) (all : List OrderedEvent) (callers : Callers) (step : ClientStep) (l l' : ClientState) → StepsTo step l l' → IsInOrder received all l → Ordered received all callers (Steps step) l'
step_in_order received all callers (Receives bytes) l l' h p =
    subst (λ (v : List OrderedEvent). IsInOrder (received ++ bytes) v l') (sym (append-nil all)) (record {
      leads = λ later.
          let more : LeadsBy max_requests ((received ++ bytes) ++ later) all l.left ((l.held ++ bytes) ++ later) =
          subst (λ (v : List ℕ). LeadsBy max_requests v all l.left ((l.held ++ bytes) ++ later)) (sym (append_assoc received bytes later))
          (subst (λ (v : List ℕ). LeadsBy max_requests (received ++ (bytes ++ later)) all l.left v) (sym (append_assoc l.held bytes later)) (p.leads (bytes ++ later))) in
          subst (λ (v : ClientState). LeadsBy max_requests ((received ++ bytes) ++ later) all v.left (v.held ++ later)) (sym h) more;
      stops = λ lost. ap (λ (v : ClientState). v.done) h ∙ p.stops lost;
    })
step_in_order received all callers ReceivesEnd l l' h p = alike received all l l' (ap (λ (v : ClientState). v.held) h) (ap (λ (v : ClientState). v.left) h) (done_as l l' (ap (λ (v : ClientState). v.done) h)) p
step_in_order received all callers (Discards bytes) l l' h p = alike received all l l' (ap (λ (v : ClientState). v.held) h.1) (ap (λ (v : ClientState). v.left) h.1) (done_as l l' (ap (λ (v : ClientState). v.done) h.1)) p
step_in_order received all callers (Sends bytes) l l' h p = alike received all l l' (ap (λ (v : ClientState). v.held) h.3) (ap (λ (v : ClientState). v.left) h.3) (done_as l l' (ap (λ (v : ClientState). v.done) h.3)) p
step_in_order received all callers (Aborts why) l l' h p = alike received all l l' (ap (λ (v : ClientState). v.held) h) (ap (λ (v : ClientState). v.left) h) (λ _. ap (λ (v : ClientState). v.done) h) p
step_in_order received all callers Limits l l' h p =
    subst (λ (v : List ℕ). IsInOrder v (all ++ LetsOneCome ∷ []) l') (sym (append-nil received)) (record {
      leads = λ later.
          let fewer = then_limited max_requests l.left (received ++ later) (l.held ++ later) all (p.leads later) in
          subst (λ (v : ClientState). LeadsBy max_requests (received ++ later) (all ++ LetsOneCome ∷ []) v.left (v.held ++ later)) (sym h) fewer;
      stops = λ lost. ap (λ (v : ClientState). v.done) h ∙ p.stops (sym (loss_in all (LetsOneCome ∷ []) ∙ or_none (has_loss all)) ∙ lost);
    })

-- Without a loss, as long as requests are received.
no_loss : (received : List ℕ) (all : List OrderedEvent) (l : ClientState) → l.done ≡ false → IsInOrder received all l → has_loss all ≡ false
no_loss received all l running p = by_cases (has_loss all) (λ lost. absurd (let is : true ≡ false = sym (p.stops lost) ∙ running in cc)) (λ none. none)

held_after : (received : Received) (asked : RequestCall) (texts : RequestTexts) (rest : List ℕ) (l : ClientState) → (after_asking false asked received texts rest l).held ≡ rest
held_after (came.Answered reply) asked texts rest l = refl
held_after (came.Drafted ticket reply) asked texts rest l = refl
held_after (came.Waits ticket) asked texts rest l = refl
held_after (came.Refused reason) asked texts rest l = refl

left_there : (received : Received) (asked : RequestCall) (texts : RequestTexts) (rest : List ℕ) (l : ClientState) → (after_asking false asked received texts rest l).left ≡ left_after (l.left - 1) asked.head
left_there (came.Answered reply) asked texts rest l = refl
left_there (came.Drafted ticket reply) asked texts rest l = refl
left_there (came.Waits ticket) asked texts rest l = refl
left_there (came.Refused reason) asked texts rest l = refl

module _ {B M : Type 0} (b : backends.Ghosts B) (m : moments.Ghosts M) (explaining : Explaining) (table : TokenFile) where
  -- The request is the next one, whatever the time.
  timeless : (asked : RequestCall) (made : Call) (texts : RequestTexts) (rest : List ℕ) (l : ClientState) (clock clock' : M) → IsAskedFor b m explaining table asked made texts rest l clock clock'
      → (later : List ℕ) → AsksCall AnyMoment (callers_of table) (l.held ++ later) tt asked (rest ++ later) tt
  timeless asked made texts rest l clock clock' h later =
      let asks = h.asks later in
      record { body = asks.body; request = asks.request; call = asks.call; moment = tt; next_is = asks.next_is }

  asked_event : (received : List ℕ) (all : List OrderedEvent) (lost : Bool) (asked : RequestCall) (made : Call) (came : Received) (texts : RequestTexts) (rest : List ℕ) (l l' : ClientState) (clock clock' : M)
      → IsAskedFor b m explaining table asked made texts rest l clock clock' → l' ≡ after_asking lost asked came texts rest l → IsInOrder received all l
      → Ordered received all (callers_of table) (Asks asked made came texts lost) l'
  asked_event received all true asked made came texts rest l l' clock clock' h is p =
      subst (λ (v : List ℕ). IsInOrder v (all ++ LosesResponse (callers_of table) asked ∷ []) l') (sym (append-nil received)) (record {
        leads = λ later.
            subst (λ (v : ClientState). LeadsBy max_requests (received ++ later) (all ++ LosesResponse (callers_of table) asked ∷ []) v.left (v.held ++ later)) (sym is)
            (one_more_lost (callers_of table) asked (rest ++ later) max_requests l.left (received ++ later) (l.held ++ later) all h.some (no_loss received all l h.is_running p) (p.leads later)
            (timeless asked made texts rest l clock clock' h later) h.closing);
        stops = λ lost. ap (λ (v : ClientState). v.done) is;
      })
  asked_event received all false asked made came texts rest l l' clock clock' h is p =
      let none = no_loss received all l h.is_running p in
      subst (λ (v : List ℕ). IsInOrder v (all ++ Requests (callers_of table) asked ∷ []) l') (sym (append-nil received)) (record {
        leads = λ later.
            let held = ap (λ (v : ClientState). v.held) is ∙ held_after came asked texts rest l in
            let left = ap (λ (v : ClientState). v.left) is ∙ left_there came asked texts rest l in
            subst (λ (v : List ℕ). LeadsBy max_requests (received ++ later) (all ++ Requests (callers_of table) asked ∷ []) l'.left (v ++ later)) (sym held)
            (subst (λ (n : ℕ). LeadsBy max_requests (received ++ later) (all ++ Requests (callers_of table) asked ∷ []) n (rest ++ later)) (sym left)
            (one_more_asked (callers_of table) asked (rest ++ later) max_requests l.left (received ++ later) (l.held ++ later) all h.some none (p.leads later)
            (timeless asked made texts rest l clock clock' h later) h.closing));
        stops = λ lost. absurd (let is : true ≡ false = sym lost ∙ loss_in all (Requests (callers_of table) asked ∷ []) ∙ or_none (has_loss all) ∙ none in cc);
      })

  event_in_order : (received : List ℕ) (all : List OrderedEvent) (event : ClientEvent) (old new : ServedClient B M) → Occurs b m explaining table event old new → IsInOrder received all old.client
      → Ordered received all (callers_of table) event new.client
  event_in_order received all (Steps step) old new h p =
      step_in_order received all (callers_of table) step old.client new.client (subst (λ (v : ClientState). StepsTo step old.client v) (sym (ap (λ (v : ServedClient B M). v.client) h.2)) h.1) p
  event_in_order received all (Asks asked made came texts lost) old new h p =
      asked_event received all lost asked made came texts h.0 old.client new.client old.clock h.1 h.3 (ap (λ (v : ServedClient B M). v.client) h.5) p
  event_in_order received all (EndsStream end) old new h p =
      let is = ap (λ (v : ServedClient B M). v.client) h.3 in
      alike received all old.client new.client (ap (λ (v : ClientState). v.held) is) (ap (λ (v : ClientState). v.left) is) (λ _. ap (λ (v : ClientState). v.done) is) p
  event_in_order received all (ReadsClock moment) old new h p =
      let is = ap (λ (v : ServedClient B M). v.client) h.2 in
      alike received all old.client new.client (ap (λ (v : ClientState). v.held) is) (ap (λ (v : ClientState). v.left) is) (done_as old.client new.client (ap (λ (v : ClientState). v.done) is)) p

-- ---- outcomes

held_so : (c lost : Bool) (w : Waiting) (outcome : Outcome) (l : ClientState) → (if c then resolved w outcome lost l else l).held ≡ l.held
held_so true true w outcome l = refl
held_so true false w outcome l = refl
held_so false lost w outcome l = refl

left_so : (c lost : Bool) (w : Waiting) (outcome : Outcome) (l : ClientState) → (if c then resolved w outcome lost l else l).left ≡ l.left
left_so true true w outcome l = refl
left_so true false w outcome l = refl
left_so false lost w outcome l = refl

done_so : (c lost : Bool) (w : Waiting) (outcome : Outcome) (l : ClientState) → l.done ≡ true → (if c then resolved w outcome lost l else l).done ≡ true
done_so true true w outcome l h = refl
done_so true false w outcome l h = h
done_so false lost w outcome l h = h

told_in_order : (received : List ℕ) (all : List OrderedEvent) (w : Option Waiting) (ticket : ℕ) (outcome : Outcome) (lost : Bool) (l : ClientState) → IsInOrder received all l
    → IsInOrder (received ++ []) (all ++ []) (told_if w ticket outcome lost l)
told_in_order received all None ticket outcome lost l p = alike received all l l refl refl (λ h. h) p
told_in_order received all (Some w) ticket outcome lost l p =
    let c = w.ticket == ticket in
    alike received all l (if c then resolved w outcome lost l else l) (held_so c lost w outcome l) (left_so c lost w outcome l) (done_so c lost w outcome l) p

-- ---- all events

module _ {B M T : Type 0} (b : backends.Ghosts B) (m : moments.Ghosts M) (t : sources.Ghosts T)
    (setup : Setup) where
  abbrev here : (key : ℕ) → ServerEvent → List ℕ
  here key event = flat_map received_by (events_for key event)

  abbrev there : (key : ℕ) → TokenFile → ServerEvent → List OrderedEvent
  there key table event = flat_map (ordered_by (callers_of table)) (events_for key event)

  abbrev NextOf : (received : List ℕ) (all : List OrderedEvent) (key : ℕ) → ServerEvent → (old mid : ServerState B M T) → Type 0
  NextOf received all key event old mid = (l1 : ClientState) × (mid.clients key ≡ Some l1) × IsInOrder (received ++ here key event) (all ++ there key old.table event) l1
      × (mid.table ≡ table_after event old.table)

  module _ (received : List ℕ) (all : List OrderedEvent) (l : ClientState) (p : IsInOrder received all l) where
    acts : (key other name : ℕ) (event : ClientEvent) (old mid : ServerState B M T) (h : Follows b m t setup (Acts other name event) old mid) → old.clients key ≡ Some l
        → NextOf received all key (Acts other name event) old mid
    acts key other name event old mid h is =
        let table = ap (λ (s : ServerState B M T). s.table) h.5 in
        let at = ap (λ (s : ServerState B M T). s.clients key) h.5 in
        by_cases (nat_eq key other)
        (λ e. let same = same_client old.clients key other l h.0 e is h.1 in
        let after = event_in_order b m setup.explaining old.table received all event _ h.3 h.4 (subst (λ (v : ClientState). IsInOrder received all v) (sym same) p) in (
          h.3.client,
          at ∙ at_same old.clients other key (Some h.3.client) e,
          subst (λ (v : Bool). IsInOrder (received ++ flat_map received_by (if v then event ∷ [] else [])) (all ++ flat_map (ordered_by (callers_of old.table)) (if v then event ∷ [] else [])) h.3.client) (sym e)
              (subst (λ (v : List ℕ). IsInOrder (received ++ v) (all ++ flat_map (ordered_by (callers_of old.table)) (event ∷ [])) h.3.client) (sym (append-nil (received_by event)))
              (subst (λ (v : List OrderedEvent). IsInOrder (received ++ received_by event) (all ++ v) h.3.client) (sym (append-nil (ordered_by (callers_of old.table) event))) after)),
          table,
        ))
        (λ e. (
          l,
          at ∙ at_other old.clients other key (Some h.3.client) e ∙ is,
          subst (λ (v : Bool). IsInOrder (received ++ flat_map received_by (if v then event ∷ [] else [])) (all ++ flat_map (ordered_by (callers_of old.table)) (if v then event ∷ [] else [])) l) (sym e)
              (alike received all l l refl refl (λ done. done) p),
          table,
        ))

    next : (event : ServerEvent) (old mid : ServerState B M T) (key : ℕ) → Follows b m t setup event old mid → old.clients key ≡ Some l → closes key event ≡ false → NextOf received all key event old mid
    next (Accepts other name) old mid key h is stays =
        (l, ap (λ (s : ServerState B M T). s.clients key) h.1 ∙ beside old.clients other key (Some (new_client name)) l h.0 is, alike received all l l refl refl (λ done. done) p, ap (λ (s : ServerState B M T). s.table) h.1)
    next (Refuses name) old mid key h is stays = (l, ap (λ (s : ServerState B M T). s.clients key) h ∙ is, alike received all l l refl refl (λ done. done) p, ap (λ (s : ServerState B M T). s.table) h)
    next (Acts other name event) old mid key h is stays = acts key other name event old mid h is
    next (Tells event ticket outcome lost) old mid key h is stays = (
      told ticket outcome lost l,
      ap (λ (s : ServerState B M T). s.clients key) h.5 ∙ ap (λ (v : Option ClientState). option_map (told ticket outcome lost) v) is,
      told_in_order received all l.waits ticket outcome lost l p,
      ap (λ (s : ServerState B M T). s.table) h.5,
    )
    next (Works event) old mid key h is stays = (l, ap (λ (s : ServerState B M T). s.clients key) h.3 ∙ is, alike received all l l refl refl (λ done. done) p, ap (λ (s : ServerState B M T). s.table) h.3)
    next (Moves moment held now) old mid key h is stays = (l, ap (λ (s : ServerState B M T). s.clients key) h.7 ∙ is, alike received all l l refl refl (λ done. done) p, ap (λ (s : ServerState B M T). s.table) h.7)
    next (Looks now found) old mid key h is stays = (l, ap (λ (s : ServerState B M T). s.clients key) h.3 ∙ is, alike received all l l refl refl (λ done. done) p, ap (λ (s : ServerState B M T). s.table) h.3)
    next Confirms old mid key h is stays = (l, ap (λ (s : ServerState B M T). s.clients key) h.3 ∙ is, alike received all l l refl refl (λ done. done) p, ap (λ (s : ServerState B M T). s.table) h.3)
    next Stops old mid key h is stays = (l, ap (λ (s : ServerState B M T). s.clients key) h.1 ∙ is, alike received all l l refl refl (λ done. done) p, ap (λ (s : ServerState B M T). s.table) h.1)
    next (Closes other) old mid key h is stays =
        (l, ap (λ (s : ServerState B M T). s.clients key) h.3 ∙ at_other old.clients other key None stays ∙ is, alike received all l l refl refl (λ done. done) p, ap (λ (s : ServerState B M T). s.table) h.3)

  in_order : (events : List ServerEvent) (old new : ServerState B M T) (key : ℕ) (l : ClientState) (received : List ℕ) (all : List OrderedEvent) → FollowAll b m t setup events old new → old.clients key ≡ Some l
      → StaysOpen key events → IsInOrder received all l
      → (l' : ClientState) × (new.clients key ≡ Some l') × IsInOrder (received ++ received_from key events) (all ++ ordered_of key old.table events) l'
  in_order [] old new key l received all h is stays p = (l, ap (λ (s : ServerState B M T). s.clients key) h ∙ is, alike received all l l refl refl (λ done. done) p)
  in_order (event ∷ events) old new key l received all h is stays p =
      let n = next received all l p event old h.0 key h.1 is stays.0 in
      let r = in_order events h.0 new key n.0 (received ++ here key event) (all ++ there key old.table event) h.2 n.1 stays.1 n.2 in (
        r.0,
        r.1,
        subst (λ (v : List ℕ). IsInOrder v (all ++ ordered_of key old.table (event ∷ events)) r.0) (append_assoc received (here key event) (received_from key events))
            (subst (λ (v : List OrderedEvent). IsInOrder ((received ++ here key event) ++ received_from key events) v r.0)
            (append_assoc all (there key old.table event) (ordered_of key h.0.table events) ∙ ap (λ (v : TokenFile). all ++ (there key old.table event ++ ordered_of key v events)) n.3) r.2),
      )

module _ {B M T : Type 0} (b : backends.Ghosts B) (m : moments.Ghosts M) (t : sources.Ghosts T) where
  pub asked_in_order : RequestsAreAskedInOrder b m t
  asked_in_order setup events old new key name h is stays =
      in_order b m t setup events old new key (new_client name) [] [] h is stays (record { leads = λ later. (refl, refl); stops = λ lost. absurd (let no : false ≡ true = lost in cc) })
