-- What the clients are sent is the texts of the replies of the policy.
use Rattle.std.proofs.Common.{◌≡◌, ◌∙◌, ◌==◌, ◌&&◌, ℕ, Bool, true, false, not, List, [], ◌∷◌, ◌++◌, length, drop, take, Option, Some, None, Result, Ok, Err, IfSome, if◌then◌else◌, refl, sym, ap, subst}
use Rattle.std.specs.List.{concat}
use Rattle.std.proofs.lemmas.Bool.{eq-eqb}
use Rattle.std.proofs.lemmas.List.Concat.{flat_map-append}
use Rattle.std.proofs.lemmas.List.Folds.{concat-append}
use Rattle.policy_core.specs.declared.call.Call.{Call}
use Rattle.service_calls.specs.Run.{TimedCall}
use Rattle.service_calls.specs.Service.{reply_of}
use Rattle.service_step.specs.declared.call_fault.CallFault.TheVariants as halts
use Rattle.service_step.specs.declared.reply.Reply.{Reply}
use Rattle.service_step.specs.declared.reply.Reply.TheVariants as replies
use Rattle.space_core.specs.declared.group_commit.GroupCommit as settles
use Rattle.space_core.specs.declared.space.Space as spaces
use Rattle.space_core.specs.declared.space.SpaceFault.{SpaceFault}
use Rattle.wire_http.specs.Notes.{MayBeNotes}
use Rattle.wire_http.specs.SetAt.{set_at}
use Rattle.wire_http.specs.Text.{end_texts}
use Rattle.wire_http.specs.Wire.{RequestCall}
use Rattle.wire_http.specs.declared.explaining.Explaining.{Explaining}
use Rattle.wire_http.specs.declared.explaining.Explaining.TheVariants.{Off, On}
use Rattle.wire_http.specs.declared.moments.Moments as moments
use Rattle.server_watch.specs.declared.token_watch.TokenSource as sources
use Rattle.server_backend.specs.BackendEvent.{Advances, Announces, Answers, BackendEvent, Forgets, Gives, GivesNone, Receives, Settles, Stops as StopsBackend, is_own, outcome_in}
use Rattle.server_backend.specs.Told.{reply_after, reply_by, reply_in as reply_of_event, reply_under, told_replies}
use Rattle.server_backend.specs.declared.backend.Backend as backends
use Rattle.server_backend.specs.declared.outcome.Outcome.{Outcome}
use Rattle.server_backend.specs.declared.outcome.Received.{Received}
use Rattle.server_backend.specs.declared.outcome.Received.TheVariants as came
use Rattle.server_clients.specs.Backends.{all_backend_events}
use Rattle.server_clients.specs.ClientEvents.{Asks, EndsStream, ReadsClock, Steps}
use Rattle.server_clients.specs.ClientState.{ClientState, drafted, new_client, slot_for}
use Rattle.server_clients.specs.Clients.{EachClientIsServed, StaysOpen, text_for, texts_to, told_text}
use Rattle.server_clients.specs.Replies.{IsTextOf}
use Rattle.server_clients.specs.ServerEvents.{Accepts, Acts, Closes, Confirms, FollowAll, Looks, Moves, Refuses, ServerEvent, ServerState, Setup, Stops, Tells, Works, backend_events_of}
use Rattle.server_clients.specs.Texts.{MayHaveTexts, RequestTexts, Slot, no_texts, outcome_text, reply_in, texts_for, without_texts}
use Rattle.database_backend.specs.Database.{ReceivesAs, StepsAs, outcome_for, outcome_of}
use Rattle.database_backend.specs.Delivered.{AreDelivered}
use Rattle.database_backend.specs.declared.database.Database.{Database}
use Rattle.database_laws.specs.Requests.{all_requests}
use Rattle.database_laws.specs.Responses.{AreTextsTo, Cause, IsResponse, IsSentUpTo, all_causes, has_text, is_told}
use Rattle.database_laws.proofs.Asked.{called_in, own_calls, told_calls}

-- ---- outcomes

own_gives_none : (event : BackendEvent) → is_own event ≡ true → outcome_in event ≡ None
own_gives_none (Receives moment call received) h = refl
own_gives_none Settles h = refl
own_gives_none (Advances moment held now) h = refl
own_gives_none (Gives ticket outcome) h = absurd (let no : false ≡ true = h in cc)
own_gives_none GivesNone h = refl
own_gives_none (Announces ticket) h = refl
own_gives_none (Answers moment ticket outcome) h = absurd (let no : false ≡ true = h in cc)
own_gives_none (Forgets ticket) h = refl
own_gives_none StopsBackend h = refl

no_call : (call : TimedCall) → call ∷ [] ≡ [] → ⊥
no_call call h = cc

-- An event without a call gives no reply at the place of a request.
told_without : (event : BackendEvent) (events : List BackendEvent) → called_in event ≡ [] → told_replies (event ∷ events) ≡ told_replies events
told_without (Receives moment call received) events h = absurd (no_call (moment, call) h)
told_without Settles events h = refl
told_without (Advances moment held now) events h = refl
told_without (Gives ticket outcome) events h = refl
told_without GivesNone events h = refl
told_without (Announces ticket) events h = refl
told_without (Answers moment ticket outcome) events h = refl
told_without (Forgets ticket) events h = refl
told_without StopsBackend events h = refl

either_before : (same : Bool) (now later sooner : Option Reply) (P : Reply → Type 0) → (IfSome later P → IfSome sooner P) → IfSome (if same then now else later) P → IfSome (if same then now else sooner) P
either_before true now later sooner P more h = h
either_before false now later sooner P more h = more h

in_before : (ticket : ℕ) (draft : Option Reply) (given : Option (ℕ × Outcome)) (later sooner : Option Reply) (P : Reply → Type 0) → (IfSome later P → IfSome sooner P)
    → IfSome (reply_of_event ticket draft given later) P → IfSome (reply_of_event ticket draft given sooner) P
in_before ticket draft None later sooner P more h = more h
in_before ticket draft (Some given) later sooner P more h = either_before (ticket == given.0) (reply_by draft given.1) later sooner P more h

-- If some events deliver a reply, so do these events with later ones.
under_before : (ticket : ℕ) (draft : Option Reply) (events rest : List BackendEvent) (P : Reply → Type 0) → IfSome (reply_under ticket draft (events ++ rest)) P → IfSome (reply_under ticket draft events) P
under_before ticket draft [] rest P h = tt
under_before ticket draft (event ∷ events) rest P h =
    in_before ticket draft (outcome_in event) (reply_under ticket draft (events ++ rest)) (reply_under ticket draft events) P (under_before ticket draft events rest P) h

told_before : (received : Received) (events rest : List BackendEvent) (P : Reply → Type 0) → IfSome (reply_after received (events ++ rest)) P → IfSome (reply_after received events) P
told_before (came.Answered reply) events rest P h = h
told_before (came.Drafted ticket reply) events rest P h = under_before ticket (Some reply) events rest P h
told_before (came.Waits ticket) events rest P h = under_before ticket None events rest P h
told_before (came.Refused reason) events rest P h = h

no_outcome : (given : ℕ × Outcome) → None ≡ Some given → ⊥
no_outcome given h = cc

abbrev outcome_or : Outcome → Option (ℕ × Outcome) → Outcome
outcome_or outcome None = outcome
outcome_or outcome (Some given) = given.1

-- ---- texts

no_notes : (explaining : Explaining) → MayBeNotes explaining []
no_notes Off = refl
no_notes On = tt

notes_for : (explaining : Explaining) (texts : RequestTexts) (reply : Reply) → MayHaveTexts explaining texts → MayBeNotes explaining (texts_for texts reply)
notes_for explaining texts (replies.Done answer) may = may.1
notes_for explaining texts (replies.Denied _ _) may = may.0
notes_for explaining texts replies.Fault may = no_notes explaining
notes_for explaining texts replies.Stopped may = no_notes explaining

is_text_of : (explaining : Explaining) (slot : Slot) (reply : Reply) → MayHaveTexts explaining slot.texts → IsTextOf explaining slot reply (reply_in slot reply)
is_text_of explaining slot reply may = (texts_for slot.texts reply, notes_for explaining slot.texts reply may, refl)

-- The reply that was told, with its text.
abbrev Known : Explaining → Slot → (told : Option Reply) → (text : List ℕ) → Type 0
Known explaining slot told text = (reply : Reply) × (told ≡ Some reply) × IsTextOf explaining slot reply text

-- Each outcome that a database gives is a reply.
outcome_known : (explaining : Explaining) (slot : Slot) (draft : Reply) (result : Result (Unit {0}) SpaceFault) → MayHaveTexts explaining slot.texts
    → Known explaining slot (reply_by (Some draft) (outcome_for result)) (outcome_text (without_texts slot) (Some (reply_in slot draft)) (outcome_for result))
outcome_known explaining slot draft (Ok x) may = (draft, refl, is_text_of explaining slot draft may)
outcome_known explaining slot draft (Err fault) may =
    (reply_of (halts.Space fault), refl, is_text_of explaining (without_texts slot) (reply_of (halts.Space fault)) (no_notes explaining, no_notes explaining))

-- The text of an outcome under a ticket, or of a later one.
known_here : (explaining : Explaining) (slot : Slot) (same lost told : Bool) (now later : Option Reply) (text rest : List ℕ) → Known explaining slot now text → (told ≡ true → Known explaining slot later rest)
    → (if same then not lost else told) ≡ true → Known explaining slot (if same then now else later) (if same then (if lost then [] else text) else rest)
known_here explaining slot true true told now later text rest h more is = absurd (let no : false ≡ true = is in cc)
known_here explaining slot true false told now later text rest h more is = h
known_here explaining slot false lost told now later text rest h more is = more is

missing_here : (same lost told : Bool) (text rest : List ℕ) → (told ≡ false → rest ≡ []) → (if same then not lost else told) ≡ false → (if same then (if lost then [] else text) else rest) ≡ []
missing_here true true told text rest more is = refl
missing_here true false told text rest more is = absurd (let no : true ≡ false = is in cc)
missing_here false lost told text rest more is = more is

told_none : (ticket : ℕ) (slot : Slot) (draft : Reply) (events : List ServerEvent) → is_told ticket events ≡ false → told_text (Some (drafted ticket slot draft)) events ≡ []
told_none ticket slot draft [] none = refl
told_none ticket slot draft (Tells event other outcome lost ∷ events) none =
    missing_here (ticket == other) lost (is_told ticket events) (outcome_text (without_texts slot) (Some (reply_in slot draft)) outcome) (told_text (Some (drafted ticket slot draft)) events)
    (told_none ticket slot draft events) none
told_none ticket slot draft (Works event ∷ events) none = told_none ticket slot draft events none
told_none ticket slot draft (Accepts key name ∷ events) none = told_none ticket slot draft events none
told_none ticket slot draft (Refuses name ∷ events) none = told_none ticket slot draft events none
told_none ticket slot draft (Acts key name event ∷ events) none = told_none ticket slot draft events none
told_none ticket slot draft (Moves moment held now ∷ events) none = told_none ticket slot draft events none
told_none ticket slot draft (Looks now found ∷ events) none = told_none ticket slot draft events none
told_none ticket slot draft (Confirms ∷ events) none = told_none ticket slot draft events none
told_none ticket slot draft (Stops ∷ events) none = told_none ticket slot draft events none
told_none ticket slot draft (Closes key ∷ events) none = told_none ticket slot draft events none

-- ---- the response to one request

-- The texts of a response, as they are without empty ones.
record Response (explaining : Explaining) (responds : Bool) (asked : RequestCall) (reply : Reply) (texts : List (List ℕ)) : Type 0 where
  pub these : List (List ℕ)
  pub is_response : IsResponse explaining responds asked reply these
  pub same : concat these ≡ concat texts

response : (explaining : Explaining) (mine lost told : Bool) (asked : RequestCall) (reply : Reply) (text : List ℕ) → (told ≡ true → IsTextOf explaining (slot_for asked no_texts) reply text) → (told ≡ false → text ≡ [])
    → Response explaining (mine && (not lost && told)) asked reply (if mine then (if lost then [] else (text ∷ [])) else [])
response explaining true true told asked reply text is none = record { these = []; is_response = refl; same = refl }
response explaining true false true asked reply text is none = record { these = text ∷ []; is_response = (text, refl, is refl); same = refl }
response explaining true false false asked reply text is none = record { these = []; is_response = refl; same = ap (λ (v : List ℕ). v ++ []) (sym (none refl)) }
response explaining false lost told asked reply text is none = record { these = []; is_response = refl; same = refl }

-- The texts for a client, as they are without empty ones.
record Texts (explaining : Explaining) (key : ℕ) (causes : List Cause) (replies : List Reply) (all : List (List ℕ)) : Type 0 where
  pub texts : List (List ℕ)
  pub are_texts : AreTextsTo explaining key causes replies texts
  pub same : concat texts ≡ concat all

joined : (these texts later all : List (List ℕ)) → concat these ≡ concat texts → concat later ≡ concat all → concat (these ++ later) ≡ concat (texts ++ all)
joined these texts later all p q = concat-append these later ∙ ap (λ (v : List ℕ). v ++ concat later) p ∙ ap (λ (v : List ℕ). concat texts ++ v) q ∙ sym (concat-append texts all)

-- An event without a response.
passed : (explaining : Explaining) (key : ℕ) (mine : Bool) (causes : List Cause) (replies : List Reply) (all : List (List ℕ)) → Texts explaining key causes replies all
    → Texts explaining key causes replies ((if mine then [] else []) ++ all)
passed explaining key true causes replies all h = h
passed explaining key false causes replies all h = h

-- The reply that was told is the delivered one.
told_is : (explaining : Explaining) (slot : Slot) (told : Option Reply) (reply : Reply) (text : List ℕ) → Known explaining slot told text → IfSome told (λ it. it ≡ reply) → IsTextOf explaining slot reply text
told_is explaining slot told reply text h same =
    let is : h.0 ≡ reply = subst (λ (v : Option Reply). IfSome v (λ it. it ≡ reply)) h.1 same in
    subst (λ (v : Reply). IsTextOf explaining slot v text) is h.2

at_self : (values : ℕ → Option ClientState) (key : ℕ) (value : Option ClientState) → set_at values key value key ≡ value
at_self values key value = ap (λ (v : Bool). if v then value else values key) (eq-eqb key key refl)

module _ {S : Type 0} (g : spaces.Ghosts S) (k : settles.Ghosts S) where
  -- The outcome that a database gives.
  gives : (event : BackendEvent) (d d' : Database S) (ticket : ℕ) (outcome : Outcome) → StepsAs g k d event d' → outcome_in event ≡ Some (ticket, outcome) → outcome ≡ outcome_for (outcome_of d)
  gives (Receives moment call received) d d' ticket outcome h is = absurd (no_outcome (ticket, outcome) is)
  gives Settles d d' ticket outcome h is = absurd (no_outcome (ticket, outcome) is)
  gives (Advances moment held now) d d' ticket outcome h is = absurd (no_outcome (ticket, outcome) is)
  gives (Gives other given) d d' ticket outcome h is =
      let same : given ≡ outcome = ap (λ (v : Option (ℕ × Outcome)). outcome_or outcome v) is in
      sym same ∙ h.2
  gives GivesNone d d' ticket outcome h is = absurd (no_outcome (ticket, outcome) is)
  gives (Announces other) d d' ticket outcome h is = absurd (no_outcome (ticket, outcome) is)
  gives (Answers moment other given) d d' ticket outcome h is = absurd h
  gives (Forgets other) d d' ticket outcome h is = absurd (no_outcome (ticket, outcome) is)
  gives StopsBackend d d' ticket outcome h is = absurd (no_outcome (ticket, outcome) is)

module _ {S M T : Type 0} (g : spaces.Ghosts S) (k : settles.Ghosts S) (b : backends.Ghosts (Database S)) (m : moments.Ghosts M) (t : sources.Ghosts T)
    (is : (d : Database S) (event : BackendEvent) (d' : Database S) → b.steps d event d' → StepsAs g k d event d') (setup : Setup) where
  -- ---- the text under a ticket

  told_known : (ticket : ℕ) (slot : Slot) (draft : Reply) → MayHaveTexts setup.explaining slot.texts → (events : List ServerEvent) (old new : ServerState (Database S) M T) → FollowAll b m t setup events old new
      → is_told ticket events ≡ true → Known setup.explaining slot (reply_under ticket (Some draft) (all_backend_events events)) (told_text (Some (drafted ticket slot draft)) events)
  told_known ticket slot draft may [] old new h told = absurd (let no : false ≡ true = told in cc)
  told_known ticket slot draft may (Tells event other outcome lost ∷ events) old new h told =
      let later = reply_under ticket (Some draft) (all_backend_events events) in
      let rest = told_text (Some (drafted ticket slot draft)) events in
      let text = outcome_text (without_texts slot) (Some (reply_in slot draft)) outcome in
      let now : Known setup.explaining slot (reply_by (Some draft) outcome) text =
      subst (λ (v : Outcome). Known setup.explaining slot (reply_by (Some draft) v) (outcome_text (without_texts slot) (Some (reply_in slot draft)) v))
      (sym (gives g k event old.backend h.1.0 other outcome (is old.backend event h.1.0 h.1.4) h.1.2)) (outcome_known setup.explaining slot draft (outcome_of old.backend) may) in
      subst (λ (v : Option (ℕ × Outcome)). Known setup.explaining slot (reply_of_event ticket (Some draft) v later) (told_text (Some (drafted ticket slot draft)) (Tells event other outcome lost ∷ events))) (sym h.1.2)
      (known_here setup.explaining slot (ticket == other) lost (is_told ticket events) (reply_by (Some draft) outcome) later text rest now (told_known ticket slot draft may events h.0 new h.2) told)
  told_known ticket slot draft may (Works event ∷ events) old new h told =
      subst (λ (v : Option (ℕ × Outcome)). Known setup.explaining slot (reply_of_event ticket (Some draft) v (reply_under ticket (Some draft) (all_backend_events events))) (told_text (Some (drafted ticket slot draft)) events))
      (sym (own_gives_none event h.1.1)) (told_known ticket slot draft may events h.0 new h.2 told)
  told_known ticket slot draft may (Accepts key name ∷ events) old new h told = told_known ticket slot draft may events h.0 new h.2 told
  told_known ticket slot draft may (Refuses name ∷ events) old new h told = told_known ticket slot draft may events h.0 new h.2 told
  told_known ticket slot draft may (Acts key name (Steps step) ∷ events) old new h told = told_known ticket slot draft may events h.0 new h.2 told
  told_known ticket slot draft may (Acts key name (Asks asked made received texts lost) ∷ events) old new h told = told_known ticket slot draft may events h.0 new h.2 told
  told_known ticket slot draft may (Acts key name (EndsStream end) ∷ events) old new h told = told_known ticket slot draft may events h.0 new h.2 told
  told_known ticket slot draft may (Acts key name (ReadsClock moment) ∷ events) old new h told = told_known ticket slot draft may events h.0 new h.2 told
  told_known ticket slot draft may (Moves moment held now ∷ events) old new h told = told_known ticket slot draft may events h.0 new h.2 told
  told_known ticket slot draft may (Looks now found ∷ events) old new h told = told_known ticket slot draft may events h.0 new h.2 told
  told_known ticket slot draft may (Confirms ∷ events) old new h told = told_known ticket slot draft may events h.0 new h.2 told
  told_known ticket slot draft may (Stops ∷ events) old new h told = told_known ticket slot draft may events h.0 new h.2 told
  told_known ticket slot draft may (Closes key ∷ events) old new h told = told_known ticket slot draft may events h.0 new h.2 told

  text_known : (moment : ℕ) (call : Call) (received : Received) (d d' : Database S) (slot : Slot) (events : List ServerEvent) (old new : ServerState (Database S) M T) → ReceivesAs g k moment call received d d'
      → MayHaveTexts setup.explaining slot.texts → FollowAll b m t setup events old new → has_text received events ≡ true
      → Known setup.explaining slot (reply_after received (all_backend_events events)) (text_for received slot events)
  text_known moment call (came.Answered reply) d d' slot events old new r may h told = (reply, refl, is_text_of setup.explaining slot reply may)
  text_known moment call (came.Drafted ticket reply) d d' slot events old new r may h told = told_known ticket slot reply may events old new h told
  text_known moment call (came.Waits ticket) d d' slot events old new r may h told = absurd r
  text_known moment call (came.Refused reason) d d' slot events old new r may h told = absurd r

  text_none : (moment : ℕ) (call : Call) (received : Received) (d d' : Database S) (slot : Slot) (events : List ServerEvent) → ReceivesAs g k moment call received d d' → has_text received events ≡ false
      → text_for received slot events ≡ []
  text_none moment call (came.Answered reply) d d' slot events r none = absurd (let no : true ≡ false = none in cc)
  text_none moment call (came.Drafted ticket reply) d d' slot events r none = told_none ticket slot reply events none
  text_none moment call (came.Waits ticket) d d' slot events r none = absurd r
  text_none moment call (came.Refused reason) d d' slot events r none = absurd r

  -- ---- all responses

  module _ (key : ℕ) where
    asked_response : (other name : ℕ) (asked : RequestCall) (made : Call) (received : Received) (texts : RequestTexts) (lost : Bool) (events : List ServerEvent) (old new : ServerState (Database S) M T) (reply : Reply)
        → FollowAll b m t setup (Acts other name (Asks asked made received texts lost) ∷ events) old new → IfSome (reply_after received (all_backend_events events)) (λ it. it ≡ reply)
        → Response setup.explaining (key == other && (not lost && has_text received events)) asked reply
        (if key == other then (if lost then [] else (text_for received (slot_for asked texts) events ∷ [])) else [])
    asked_response other name asked made received texts lost events old new reply h told =
        let receives = is old.backend (Receives asked.moment made received) h.1.4.2 h.1.4.4 in
        let slot = slot_for asked texts in
        response setup.explaining (key == other) lost (has_text received events) asked reply (text_for received slot events)
        (λ has. told_is setup.explaining slot (reply_after received (all_backend_events events)) reply (text_for received slot events)
        (text_known asked.moment made received old.backend h.1.4.2 slot events h.0 new receives h.1.4.3.texts_are h.2 has) told)
        (λ none. text_none asked.moment made received old.backend h.1.4.2 slot events receives none)

    -- The replies after an event without a call.
    skipped : (event : BackendEvent) (events : List ServerEvent) (replies : List Reply) → called_in event ≡ [] → AreDelivered (told_replies (event ∷ all_backend_events events)) replies
        → AreDelivered (told_replies (all_backend_events events)) replies
    skipped event events replies none h = subst (λ (v : List (Option Reply)). AreDelivered v replies) (told_without event (all_backend_events events) none) h

    with_none : (event : BackendEvent) (events : List ServerEvent) (replies : List Reply) → called_in event ≡ [] → AreDelivered (told_replies (all_backend_events events)) replies
        → AreDelivered (told_replies (event ∷ all_backend_events events)) replies
    with_none event events replies none h = subst (λ (v : List (Option Reply)). AreDelivered v replies) (sym (told_without event (all_backend_events events) none)) h

    abbrev TextsOf : List ServerEvent → List Reply → Type 0
    TextsOf events replies = Texts setup.explaining key (all_causes events) replies (texts_to key events)

    all_texts : (events : List ServerEvent) (old new : ServerState (Database S) M T) → FollowAll b m t setup events old new → (replies : List Reply) → AreDelivered (told_replies (all_backend_events events)) replies
        → TextsOf events replies
    all_texts [] old new h replies d = record { texts = []; are_texts = (d, refl); same = refl }
    all_texts (Acts other name (Asks asked made received texts lost) ∷ events) old new h [] d = absurd d
    all_texts (Acts other name (Asks asked made received texts lost) ∷ events) old new h (reply ∷ replies) d =
        let one = asked_response other name asked made received texts lost events old new reply h d.0 in
        let rest = all_texts events h.0 new h.2 replies d.1 in
        record {
          texts = one.these ++ rest.texts;
          are_texts = (one.these, rest.texts, refl, one.is_response, rest.are_texts);
          same = joined one.these (if key == other then (if lost then [] else (text_for received (slot_for asked texts) events ∷ [])) else []) rest.texts (texts_to key events) one.same rest.same;
        }
    all_texts (Acts other name (EndsStream end) ∷ events) old new h replies d =
        let rest = all_texts events h.0 new h.2 replies d in
        let last = if key == other then end_texts end else [] in
        record { texts = last ++ rest.texts; are_texts = (rest.texts, refl, rest.are_texts); same = joined last last rest.texts (texts_to key events) refl rest.same }
    all_texts (Acts other name (Steps step) ∷ events) old new h replies d = passed setup.explaining key (key == other) (all_causes events) replies (texts_to key events) (all_texts events h.0 new h.2 replies d)
    all_texts (Acts other name (ReadsClock moment) ∷ events) old new h replies d = passed setup.explaining key (key == other) (all_causes events) replies (texts_to key events) (all_texts events h.0 new h.2 replies d)
    all_texts (Tells event ticket outcome lost ∷ events) old new h replies d = all_texts events h.0 new h.2 replies (skipped event events replies (told_calls m event old.clock h.1.1 h.1.3) d)
    all_texts (Works event ∷ events) old new h replies d = all_texts events h.0 new h.2 replies (skipped event events replies (own_calls event h.1.1) d)
    all_texts (Moves moment held now ∷ events) old new h replies d = all_texts events h.0 new h.2 replies d
    all_texts (Accepts other name ∷ events) old new h replies d = all_texts events h.0 new h.2 replies d
    all_texts (Refuses name ∷ events) old new h replies d = all_texts events h.0 new h.2 replies d
    all_texts (Looks now found ∷ events) old new h replies d = all_texts events h.0 new h.2 replies d
    all_texts (Confirms ∷ events) old new h replies d = all_texts events h.0 new h.2 replies d
    all_texts (Stops ∷ events) old new h replies d = all_texts events h.0 new h.2 replies d
    all_texts (Closes other ∷ events) old new h replies d = all_texts events h.0 new h.2 replies d

    -- ---- from an acceptance on

    -- The replies to the requests after some events.
    delivered_after : (before after : List ServerEvent) (old new : ServerState (Database S) M T) → FollowAll b m t setup (before ++ after) old new → (replies : List Reply)
        → AreDelivered (told_replies (all_backend_events (before ++ after))) replies → AreDelivered (told_replies (all_backend_events after)) (drop (length (all_requests before)) replies)
    delivered_after [] after old new h replies d = d
    delivered_after (Acts other name (Asks asked made received texts lost) ∷ before) after old new h [] d = absurd d
    delivered_after (Acts other name (Asks asked made received texts lost) ∷ before) after old new h (reply ∷ replies) d = delivered_after before after h.0 new h.2 replies d.1
    delivered_after (Acts other name (EndsStream end) ∷ before) after old new h replies d = delivered_after before after h.0 new h.2 replies d
    delivered_after (Acts other name (Steps step) ∷ before) after old new h replies d = delivered_after before after h.0 new h.2 replies d
    delivered_after (Acts other name (ReadsClock moment) ∷ before) after old new h replies d = delivered_after before after h.0 new h.2 replies d
    delivered_after (Tells event ticket outcome lost ∷ before) after old new h replies d =
        delivered_after before after h.0 new h.2 replies (skipped event (before ++ after) replies (told_calls m event old.clock h.1.1 h.1.3) d)
    delivered_after (Works event ∷ before) after old new h replies d = delivered_after before after h.0 new h.2 replies (skipped event (before ++ after) replies (own_calls event h.1.1) d)
    delivered_after (Moves moment held now ∷ before) after old new h replies d = delivered_after before after h.0 new h.2 replies d
    delivered_after (Accepts other name ∷ before) after old new h replies d = delivered_after before after h.0 new h.2 replies d
    delivered_after (Refuses name ∷ before) after old new h replies d = delivered_after before after h.0 new h.2 replies d
    delivered_after (Looks now found ∷ before) after old new h replies d = delivered_after before after h.0 new h.2 replies d
    delivered_after (Confirms ∷ before) after old new h replies d = delivered_after before after h.0 new h.2 replies d
    delivered_after (Stops ∷ before) after old new h replies d = delivered_after before after h.0 new h.2 replies d
    delivered_after (Closes other ∷ before) after old new h replies d = delivered_after before after h.0 new h.2 replies d

    -- The replies to the first requests. A reply that was told later is not needed.
    delivered_before : (during rest : List ServerEvent) (old new : ServerState (Database S) M T) → FollowAll b m t setup (during ++ rest) old new → (replies : List Reply)
        → AreDelivered (told_replies (all_backend_events (during ++ rest))) replies → AreDelivered (told_replies (all_backend_events during)) (take (length (all_requests during)) replies)
    delivered_before [] rest old new h replies d = refl
    delivered_before (Acts other name (Asks asked made received texts lost) ∷ during) rest old new h [] d = absurd d
    delivered_before (Acts other name (Asks asked made received texts lost) ∷ during) rest old new h (reply ∷ replies) d = (
      told_before received (all_backend_events during) (all_backend_events rest) (λ it. it ≡ reply)
          (subst (λ (v : List BackendEvent). IfSome (reply_after received v) (λ it. it ≡ reply)) (flat_map-append backend_events_of during rest) d.0),
      delivered_before during rest h.0 new h.2 replies d.1,
    )
    delivered_before (Acts other name (EndsStream end) ∷ during) rest old new h replies d = delivered_before during rest h.0 new h.2 replies d
    delivered_before (Acts other name (Steps step) ∷ during) rest old new h replies d = delivered_before during rest h.0 new h.2 replies d
    delivered_before (Acts other name (ReadsClock moment) ∷ during) rest old new h replies d = delivered_before during rest h.0 new h.2 replies d
    delivered_before (Tells event ticket outcome lost ∷ during) rest old new h replies d =
        with_none event during (take (length (all_requests during)) replies) (told_calls m event old.clock h.1.1 h.1.3)
        (delivered_before during rest h.0 new h.2 replies (skipped event (during ++ rest) replies (told_calls m event old.clock h.1.1 h.1.3) d))
    delivered_before (Works event ∷ during) rest old new h replies d =
        with_none event during (take (length (all_requests during)) replies) (own_calls event h.1.1)
        (delivered_before during rest h.0 new h.2 replies (skipped event (during ++ rest) replies (own_calls event h.1.1) d))
    delivered_before (Moves moment held now ∷ during) rest old new h replies d = delivered_before during rest h.0 new h.2 replies d
    delivered_before (Accepts other name ∷ during) rest old new h replies d = delivered_before during rest h.0 new h.2 replies d
    delivered_before (Refuses name ∷ during) rest old new h replies d = delivered_before during rest h.0 new h.2 replies d
    delivered_before (Looks now found ∷ during) rest old new h replies d = delivered_before during rest h.0 new h.2 replies d
    delivered_before (Confirms ∷ during) rest old new h replies d = delivered_before during rest h.0 new h.2 replies d
    delivered_before (Stops ∷ during) rest old new h replies d = delivered_before during rest h.0 new h.2 replies d
    delivered_before (Closes other ∷ during) rest old new h replies d = delivered_before during rest h.0 new h.2 replies d

    -- The state between events.
    parted : (before after : List ServerEvent) (old new : ServerState (Database S) M T) → FollowAll b m t setup (before ++ after) old new
        → (mid : ServerState (Database S) M T) × FollowAll b m t setup before old mid × FollowAll b m t setup after mid new
    parted [] after old new h = (old, refl, h)
    parted (event ∷ before) after old new h =
        let found = parted before after h.0 new h.2 in
        (found.0, (h.0, h.1, found.1), found.2)

    follow_more : (before after : List ServerEvent) (old mid new : ServerState (Database S) M T) → FollowAll b m t setup before old mid → FollowAll b m t setup after mid new
        → FollowAll b m t setup (before ++ after) old new
    follow_more [] after old mid new h rest = subst (λ (s : ServerState (Database S) M T). FollowAll b m t setup after s new) h rest
    follow_more (event ∷ before) after old mid new h rest = (h.0, h.1, follow_more before after h.0 mid new h.2 rest)

    pub sent_up_to : EachClientIsServed b m t → (before during rest : List ServerEvent) (name : ℕ) (old new : ServerState (Database S) M T)
        → FollowAll b m t setup (before ++ Accepts key name ∷ (during ++ rest)) old new → (replies : List Reply)
        → AreDelivered (told_replies (all_backend_events (before ++ Accepts key name ∷ (during ++ rest)))) replies → StaysOpen key during
        → IsSentUpTo b m t setup old replies before during key name
    sent_up_to each before during rest name old new h replies d stays =
        let outer = parted before (Accepts key name ∷ (during ++ rest)) old new h in
        let accepts = outer.2 in
        let start = accepts.0 in
        let inner = parted during rest start new accepts.2 in
        let accepted : start.clients key ≡ Some (new_client name) = ap (λ (s : ServerState (Database S) M T). s.clients key) accepts.1.1 ∙ at_self outer.0.clients key (Some (new_client name)) in
        let served = each setup during start inner.0 key name inner.1 accepted stays in
        let later = drop (length (all_requests before)) replies in
        let after = delivered_after before (Accepts key name ∷ (during ++ rest)) old new h replies d in
        let of = all_texts during start inner.0 inner.1 (take (length (all_requests during)) later) (delivered_before during rest start new accepts.2 later after) in
        record {
          mid = inner.0;
          follow = follow_more before (Accepts key name ∷ during) old outer.0 inner.0 outer.1 (start, accepts.1, inner.1);
          sent = record {
            client = served.0;
            client_is = served.1;
            name_is = served.2;
            texts = of.texts;
            are_texts = of.are_texts;
            sent = served.3 ∙ sym of.same;
          };
        }

    pub each_is_sent : EachClientIsServed b m t → (events : List ServerEvent) (old new : ServerState (Database S) M T) → FollowAll b m t setup events old new → (replies : List Reply)
        → AreDelivered (told_replies (all_backend_events events)) replies → (before during rest : List ServerEvent) (name : ℕ) → events ≡ before ++ Accepts key name ∷ (during ++ rest)
        → StaysOpen key during → IsSentUpTo b m t setup old replies before during key name
    each_is_sent each events old new follow replies told before during rest name split stays =
        sent_up_to each before during rest name old new (subst (λ (v : List ServerEvent). FollowAll b m t setup v old new) split follow) replies
        (subst (λ (v : List ServerEvent). AreDelivered (told_replies (all_backend_events v)) replies) split told) stays
