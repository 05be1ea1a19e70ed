-- What each client is sent, event by event.
use Rattle.std.proofs.Common.{◌≡◌, ◌==◌, ℕ, Bool, true, false, List, [], ◌∷◌, ◌++◌, take, drop, Option, Some, None, option_map, if◌then◌else◌, refl, sym, ap, subst, ◌∙◌, append_assoc}
use Rattle.std.specs.Prelude.{nat_eq}
use Rattle.std.specs.List.{concat}
use Rattle.std.proofs.lemmas.List.{append-nil, take-append-drop}
use Rattle.std.proofs.lemmas.List.Folds.{concat-append}
use Rattle.policy_core.specs.declared.call.Call.{Call}
use Rattle.token_conf.specs.TokenFile.{TokenFile}
use Rattle.wire_http.specs.Text.{end_texts, unavailable_text}
use Rattle.wire_http.specs.Wire.{RequestCall}
use Rattle.wire_http.specs.declared.end.End.{End}
use Rattle.wire_http.specs.declared.explaining.Explaining.{Explaining}
use Rattle.wire_http.specs.declared.moments.Moments as moments
use Rattle.server_watch.specs.declared.token_watch.TokenSource as sources
use Rattle.server_backend.specs.declared.backend.Backend as backends
use Rattle.server_backend.specs.declared.outcome.Outcome.{Outcome}
use Rattle.server_backend.specs.declared.outcome.Received.{Received}
use Rattle.server_backend.specs.declared.outcome.Received.TheVariants as came
use Rattle.server_clients.specs.ClientEvents.{Asks, ClientEvent, EndsStream, Occurs, ReadsClock, ServedClient, Steps}
use Rattle.server_clients.specs.ClientState.{Aborts, ClientState, ClientStep, Discards, Limits, Receives, ReceivesEnd, Sends, StepsTo, Waiting, after_asking, drafted, finished, new_client, resolved, slot_for, told, told_if, waiting}
use Rattle.server_clients.specs.Clients.{EachClientIsServed, StaysOpen, closes, sent_by, sent_to, texts_of, texts_to, told_by, told_text}
use Rattle.server_clients.specs.ServerEvents.{Accepts, Acts, Closes, Confirms, FollowAll, Follows, Looks, Moves, Refuses, ServerEvent, ServerState, Setup, Stops, Tells, Works}
use Rattle.server_clients.specs.Texts.{RequestTexts, outcome_text, reply_in}
use Rattle.server_clients.proofs.Keys.{at_other, at_same, beside, by_cases, same_client}

-- ---- outcomes

none_told : (events : List ServerEvent) → told_text None events ≡ []
none_told [] = refl
none_told (Tells event ticket outcome lost ∷ events) = refl
none_told (Accepts key name ∷ events) = none_told events
none_told (Refuses name ∷ events) = none_told events
none_told (Acts key name event ∷ events) = none_told events
none_told (Works event ∷ events) = none_told events
none_told (Moves moment held now ∷ events) = none_told events
none_told (Looks now found ∷ events) = none_told events
none_told (Confirms ∷ events) = none_told events
none_told (Stops ∷ events) = none_told events
none_told (Closes key ∷ events) = none_told events

-- Holds if this is what may be sent before, the outcome of the request that waits, and the texts of
-- later requests.
abbrev AreTexts : (key : ℕ) → List ServerEvent → ClientState → (sent : List ℕ) → Type 0
AreTexts key events l sent = sent ≡ l.ready ++ (told_text l.waits events ++ concat (texts_to key events))

-- Holds if what is sent to a client over events, and what may be sent after them, is these texts.
abbrev IsSent : (key : ℕ) → List ServerEvent → ClientState → ClientState → Type 0
IsSent key events l l' = AreTexts key events l (sent_to key events ++ l'.ready)

-- Holds if an event leads to the state from which the later texts go on.
abbrev Goes : (key : ℕ) → ServerEvent → ClientState → ClientState → Type 0
Goes key event l l1 = (events : List ServerEvent) (l' : ClientState) → IsSent key events l1 l' → IsSent key (event ∷ events) l l'

told_so : (c lost : Bool) (w : Waiting) (outcome : Outcome) (l : ClientState) → l.waits ≡ Some w → (s rest : List ℕ) (events : List ServerEvent)
    → s ≡ (if c then resolved w outcome lost l else l).ready ++ (told_text (if c then resolved w outcome lost l else l).waits events ++ rest)
    → s ≡ l.ready ++ ((if c then (if lost then [] else outcome_text w.slot w.draft outcome) else told_text (Some w) events) ++ rest)
told_so true true w outcome l is s rest events k = k ∙ ap (λ (v : List ℕ). l.ready ++ (v ++ rest)) (none_told events)
told_so true false w outcome l is s rest events k =
    let text = outcome_text w.slot w.draft outcome in
    k ∙ ap (λ (v : List ℕ). (l.ready ++ text) ++ (v ++ rest)) (none_told events) ∙ append_assoc l.ready text rest
told_so false lost w outcome l is s rest events k = k ∙ ap (λ (v : Option Waiting). l.ready ++ (told_text v events ++ rest)) is

told_as : (ticket : ℕ) (outcome : Outcome) (lost : Bool) (w : Option Waiting) (l : ClientState) → l.waits ≡ w → (s rest : List ℕ) (events : List ServerEvent)
    → s ≡ (told_if w ticket outcome lost l).ready ++ (told_text (told_if w ticket outcome lost l).waits events ++ rest)
    → s ≡ l.ready ++ (told_by w ticket outcome lost (told_text w events) ++ rest)
told_as ticket outcome lost None l is s rest events k = k ∙ ap (λ (v : List ℕ). l.ready ++ (v ++ rest)) (ap (λ (v : Option Waiting). told_text v events) is ∙ none_told events)
told_as ticket outcome lost (Some w) l is s rest events k = told_so (w.ticket == ticket) lost w outcome l is s rest events k

-- ---- events of the client

-- What an event of the client sends, and what may be sent after it, is what may be sent before it, and
-- the texts that it causes.
abbrev Causes : (key : ℕ) → ClientEvent → ClientState → ClientState → Type 0
Causes key event l l1 = (events : List ServerEvent) (s : List ℕ) → AreTexts key events l1 s
    → sent_by event ++ s ≡ l.ready ++ (told_text l.waits events ++ concat (texts_of event events ++ texts_to key events))

still : (key : ℕ) (event : ClientEvent) (l l1 : ClientState) → sent_by event ≡ [] → ((events : List ServerEvent) → texts_of event events ≡ []) → l1.ready ≡ l.ready → l1.waits ≡ l.waits → Causes key event l l1
still key event l l1 none quiet ready waits = λ events s k.
    let rest = concat (texts_to key events) in
    ap (λ (v : List ℕ). v ++ s) none ∙ k ∙ ap (λ (v : List ℕ). v ++ (told_text l1.waits events ++ rest)) ready ∙ ap (λ (v : Option Waiting). l.ready ++ (told_text v events ++ rest)) waits
    ∙ ap (λ (v : List (List ℕ)). l.ready ++ (told_text l.waits events ++ concat (v ++ texts_to key events))) (sym (quiet events))

step_moves : (key : ℕ) (step : ClientStep) (l l1 : ClientState) → StepsTo step l l1 → Causes key (Steps step) l l1
step_moves key (Receives bytes) l l1 h = still key (Steps (Receives bytes)) l l1 refl (λ events. refl) (ap (λ (v : ClientState). v.ready) h) (ap (λ (v : ClientState). v.waits) h)
step_moves key ReceivesEnd l l1 h = still key (Steps ReceivesEnd) l l1 refl (λ events. refl) (ap (λ (v : ClientState). v.ready) h) (ap (λ (v : ClientState). v.waits) h)
step_moves key (Discards bytes) l l1 h = still key (Steps (Discards bytes)) l l1 refl (λ events. refl) (ap (λ (v : ClientState). v.ready) h.1) (ap (λ (v : ClientState). v.waits) h.1)
step_moves key (Aborts why) l l1 h = still key (Steps (Aborts why)) l l1 refl (λ events. refl) (ap (λ (v : ClientState). v.ready) h) (ap (λ (v : ClientState). v.waits) h)
step_moves key Limits l l1 h = still key (Steps Limits) l l1 refl (λ events. refl) (ap (λ (v : ClientState). v.ready) h) (ap (λ (v : ClientState). v.waits) h)
step_moves key (Sends bytes) l l1 h = λ events s k.
    let rest = told_text l.waits events ++ concat (texts_to key events) in
    let left = drop h.0 l.ready in
    let here : s ≡ left ++ rest = subst (λ (v : ClientState). AreTexts key events v s) h.3 k in
    ap (λ (v : List ℕ). bytes ++ v) here ∙ ap (λ (v : List ℕ). v ++ (left ++ rest)) h.2 ∙ sym (append_assoc (take h.0 l.ready) left rest) ∙ ap (λ (v : List ℕ). v ++ rest) (take-append-drop h.0 l.ready)

-- A text that may be sent at once, and then the texts of later requests.
adds : (l : ClientState) (text s rest : List ℕ) (events : List ServerEvent) → l.waits ≡ None → s ≡ (l.ready ++ text) ++ (told_text l.waits events ++ rest)
    → s ≡ l.ready ++ (told_text l.waits events ++ (text ++ rest))
adds l text s rest events none k =
    let quiet = ap (λ (v : Option Waiting). told_text v events) none ∙ none_told events in
    k ∙ ap (λ (v : List ℕ). (l.ready ++ text) ++ (v ++ rest)) quiet ∙ append_assoc l.ready text rest ∙ ap (λ (v : List ℕ). l.ready ++ (v ++ (text ++ rest))) (sym quiet)

-- A text that waits for its outcome.
holds : (l : ClientState) (w : Waiting) (s rest : List ℕ) (events : List ServerEvent) → l.waits ≡ None → s ≡ l.ready ++ (told_text (Some w) events ++ rest)
    → s ≡ l.ready ++ (told_text l.waits events ++ (told_text (Some w) events ++ rest))
holds l w s rest events none k =
    let quiet = ap (λ (v : Option Waiting). told_text v events) none ∙ none_told events in
    k ∙ ap (λ (v : List ℕ). l.ready ++ (v ++ (told_text (Some w) events ++ rest))) (sym quiet)

asked_moves : (key : ℕ) (lost : Bool) (l l1 : ClientState) (asked : RequestCall) (made : Call) (received : Received) (texts : RequestTexts) (rest : List ℕ)
    → l.waits ≡ None → l1 ≡ after_asking lost asked received texts rest l → Causes key (Asks asked made received texts lost) l l1
asked_moves key true l l1 asked made received texts rest none is = λ events s k. subst (λ (v : ClientState). AreTexts key events v s) is k
asked_moves key false l l1 asked made (came.Answered reply) texts rest none is = λ events s k.
    adds l (reply_in (slot_for asked texts) reply) s (concat (texts_to key events)) events none (subst (λ (v : ClientState). AreTexts key events v s) is k)
asked_moves key false l l1 asked made (came.Refused reason) texts rest none is = λ events s k.
    adds l (unavailable_text asked.closing reason) s (concat (texts_to key events)) events none (subst (λ (v : ClientState). AreTexts key events v s) is k)
asked_moves key false l l1 asked made (came.Drafted ticket reply) texts rest none is = λ events s k.
    holds l (drafted ticket (slot_for asked texts) reply) s (concat (texts_to key events)) events none (subst (λ (v : ClientState). AreTexts key events v s) is k)
asked_moves key false l l1 asked made (came.Waits ticket) texts rest none is = λ events s k.
    holds l (waiting ticket (slot_for asked texts)) s (concat (texts_to key events)) events none (subst (λ (v : ClientState). AreTexts key events v s) is k)

ended_moves : (key : ℕ) (end : End) (l l1 : ClientState) → l.waits ≡ None → l1 ≡ finished l end → Causes key (EndsStream end) l l1
ended_moves key end l l1 none is = λ events s k.
    adds l (concat (end_texts end)) s (concat (texts_to key events)) events none (subst (λ (v : ClientState). AreTexts key events v s) is k)
    ∙ ap (λ (v : List ℕ). l.ready ++ (told_text l.waits events ++ v)) (sym (concat-append (end_texts end) (texts_to key events)))

step_name : (step : ClientStep) (l l1 : ClientState) → StepsTo step l l1 → l1.name ≡ l.name
step_name (Receives bytes) l l1 h = ap (λ (v : ClientState). v.name) h
step_name ReceivesEnd l l1 h = ap (λ (v : ClientState). v.name) h
step_name (Discards bytes) l l1 h = ap (λ (v : ClientState). v.name) h.1
step_name (Sends bytes) l l1 h = ap (λ (v : ClientState). v.name) h.3
step_name (Aborts why) l l1 h = ap (λ (v : ClientState). v.name) h
step_name Limits l l1 h = ap (λ (v : ClientState). v.name) h

asked_name : (lost : Bool) (asked : RequestCall) (received : Received) (texts : RequestTexts) (rest : List ℕ) (l : ClientState) → (after_asking lost asked received texts rest l).name ≡ l.name
asked_name true asked received texts rest l = refl
asked_name false asked (came.Answered reply) texts rest l = refl
asked_name false asked (came.Drafted ticket reply) texts rest l = refl
asked_name false asked (came.Waits ticket) texts rest l = refl
asked_name false asked (came.Refused reason) texts rest l = refl

told_name_so : (c lost : Bool) (w : Waiting) (outcome : Outcome) (l : ClientState) → (if c then resolved w outcome lost l else l).name ≡ l.name
told_name_so true true w outcome l = refl
told_name_so true false w outcome l = refl
told_name_so false lost w outcome l = refl

told_name : (w : Option Waiting) (ticket : ℕ) (outcome : Outcome) (lost : Bool) (l : ClientState) → (told_if w ticket outcome lost l).name ≡ l.name
told_name None ticket outcome lost l = refl
told_name (Some w) ticket outcome lost l = told_name_so (w.ticket == ticket) lost w outcome l

module _ {B M : Type 0} (b : backends.Ghosts B) (m : moments.Ghosts M) (explaining : Explaining) (table : TokenFile) where
  pub event_name : (event : ClientEvent) (old new : ServedClient B M) → Occurs b m explaining table event old new → new.client.name ≡ old.client.name
  event_name (Steps step) old new h = ap (λ (v : ServedClient B M). v.client.name) h.2 ∙ step_name step old.client h.0 h.1
  event_name (Asks asked made received texts lost) old new h = ap (λ (v : ServedClient B M). v.client.name) h.5 ∙ asked_name lost asked received texts h.0 old.client
  event_name (EndsStream end) old new h = ap (λ (v : ServedClient B M). v.client.name) h.3
  event_name (ReadsClock moment) old new h = ap (λ (v : ServedClient B M). v.client.name) h.2

  event_moves : (key : ℕ) (event : ClientEvent) (old new : ServedClient B M) → Occurs b m explaining table event old new → Causes key event old.client new.client
  event_moves key (Steps step) old new h = step_moves key step old.client new.client
      (subst (λ (v : ClientState). StepsTo step old.client v) (sym (ap (λ (v : ServedClient B M). v.client) h.2)) h.1)
  event_moves key (Asks asked made received texts lost) old new h =
      asked_moves key lost old.client new.client asked made received texts h.0 h.3.none_waits (ap (λ (v : ServedClient B M). v.client) h.5)
  event_moves key (EndsStream end) old new h = ended_moves key end old.client new.client h.1 (ap (λ (v : ServedClient B M). v.client) h.3)
  event_moves key (ReadsClock moment) old new h =
      let same = ap (λ (v : ServedClient B M). v.client) h.2 in
      still key (ReadsClock moment) old.client new.client refl (λ events. refl) (ap (λ (v : ClientState). v.ready) same) (ap (λ (v : ClientState). v.waits) same)

-- ---- all events

module _ {B M T : Type 0} (b : backends.Ghosts B) (m : moments.Ghosts M) (t : sources.Ghosts T)
    (setup : Setup) where
  abbrev NextOf : (key : ℕ) → ServerEvent → ClientState → ServerState B M T → Type 0
  NextOf key event l mid = (l1 : ClientState) × (mid.clients key ≡ Some l1) × (l1.name ≡ l.name) × Goes key event l l1

  keeps : (key : ℕ) (event : ServerEvent) (l : ClientState) (mid : ServerState B M T) → mid.clients key ≡ Some l → Goes key event l l → NextOf key event l mid
  keeps key event l mid is goes = (l, is, refl, goes)

  -- The event of the client under the key.
  acts_here : (key other name : ℕ) (event : ClientEvent) (l : ClientState) (old mid : ServerState B M T) (h : Follows b m t setup (Acts other name event) old mid) → old.clients key ≡ Some l → nat_eq key other ≡ true
      → NextOf key (Acts other name event) l mid
  acts_here key other name event l old mid h is e =
      let same = same_client old.clients key other l h.0 e is h.1 in
      let at = ap (λ (s : ServerState B M T). s.clients key) h.5 ∙ at_same old.clients other key (Some h.3.client) e in
      let moves : Causes key event l h.3.client = subst (λ (v : ClientState). Causes key event v h.3.client) same (event_moves b m setup.explaining old.table key event _ h.3 h.4) in (
        h.3.client,
        at,
        event_name b m setup.explaining old.table event _ h.3 h.4 ∙ ap (λ (v : ClientState). v.name) same,
        λ events l' k.
            ap (λ (v : Bool). ((if v then sent_by event else []) ++ sent_to key events) ++ l'.ready) e ∙ append_assoc (sent_by event) (sent_to key events) l'.ready
            ∙ moves events (sent_to key events ++ l'.ready) k
            ∙ ap (λ (v : Bool). l.ready ++ (told_text l.waits events ++ concat ((if v then texts_of event events else []) ++ texts_to key events))) (sym e),
      )

  acts_there : (key other name : ℕ) (event : ClientEvent) (l : ClientState) (old mid : ServerState B M T) (h : Follows b m t setup (Acts other name event) old mid) → old.clients key ≡ Some l → nat_eq key other ≡ false
      → NextOf key (Acts other name event) l mid
  acts_there key other name event l old mid h is e =
      keeps key (Acts other name event) l mid (ap (λ (s : ServerState B M T). s.clients key) h.5 ∙ at_other old.clients other key (Some h.3.client) e ∙ is)
      (λ events l' k.
      ap (λ (v : Bool). ((if v then sent_by event else []) ++ sent_to key events) ++ l'.ready) e ∙ k
      ∙ ap (λ (v : Bool). l.ready ++ (told_text l.waits events ++ concat ((if v then texts_of event events else []) ++ texts_to key events))) (sym e))

  next : (event : ServerEvent) (old mid : ServerState B M T) (key : ℕ) (l : ClientState) → Follows b m t setup event old mid → old.clients key ≡ Some l → closes key event ≡ false → NextOf key event l mid
  next (Accepts other name) old mid key l h is stays =
      keeps key (Accepts other name) l mid (ap (λ (s : ServerState B M T). s.clients key) h.1 ∙ beside old.clients other key (Some (new_client name)) l h.0 is) (λ events l' k. k)
  next (Refuses name) old mid key l h is stays = keeps key (Refuses name) l mid (ap (λ (s : ServerState B M T). s.clients key) h ∙ is) (λ events l' k. k)
  next (Acts other name event) old mid key l h is stays = by_cases (nat_eq key other) (acts_here key other name event l old mid h is) (acts_there key other name event l old mid h is)
  next (Tells event ticket outcome lost) old mid key l h is stays = (
    told ticket outcome lost l,
    ap (λ (s : ServerState B M T). s.clients key) h.5 ∙ ap (λ (v : Option ClientState). option_map (told ticket outcome lost) v) is,
    told_name l.waits ticket outcome lost l,
    λ events l' k. told_as ticket outcome lost l.waits l refl (sent_to key events ++ l'.ready) (concat (texts_to key events)) events k,
  )
  next (Works event) old mid key l h is stays = keeps key (Works event) l mid (ap (λ (s : ServerState B M T). s.clients key) h.3 ∙ is) (λ events l' k. k)
  next (Moves moment held now) old mid key l h is stays = keeps key (Moves moment held now) l mid (ap (λ (s : ServerState B M T). s.clients key) h.7 ∙ is) (λ events l' k. k)
  next (Looks now found) old mid key l h is stays = keeps key (Looks now found) l mid (ap (λ (s : ServerState B M T). s.clients key) h.3 ∙ is) (λ events l' k. k)
  next Confirms old mid key l h is stays = keeps key Confirms l mid (ap (λ (s : ServerState B M T). s.clients key) h.3 ∙ is) (λ events l' k. k)
  next Stops old mid key l h is stays = keeps key Stops l mid (ap (λ (s : ServerState B M T). s.clients key) h.1 ∙ is) (λ events l' k. k)
  next (Closes other) old mid key l h is stays =
      keeps key (Closes other) l mid (ap (λ (s : ServerState B M T). s.clients key) h.3 ∙ at_other old.clients other key None stays ∙ is) (λ events l' k. k)

  served : (events : List ServerEvent) (old new : ServerState B M T) (key : ℕ) (l : ClientState) → FollowAll b m t setup events old new → old.clients key ≡ Some l → StaysOpen key events
      → (l' : ClientState) × (new.clients key ≡ Some l') × (l'.name ≡ l.name) × IsSent key events l l'
  served [] old new key l h is stays = (l, ap (λ (s : ServerState B M T). s.clients key) h ∙ is, refl, sym (append-nil l.ready))
  served (event ∷ events) old new key l h is stays =
      let n = next event old h.0 key l h.1 is stays.0 in
      let r = served events h.0 new key n.0 h.2 n.1 stays.1 in
      (r.0, r.1, r.2 ∙ n.2, n.3 events r.0 r.3)

module _ {B M T : Type 0} (b : backends.Ghosts B) (m : moments.Ghosts M) (t : sources.Ghosts T) where
  pub each_is_served : EachClientIsServed b m t
  each_is_served setup events old new key name h is stays =
      let r = served b m t setup events old new key (new_client name) h is stays in
      (r.0, r.1, r.2, r.3 ∙ ap (λ (v : List ℕ). v ++ concat (texts_to key events)) (none_told events))
