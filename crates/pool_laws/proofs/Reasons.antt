-- Why a request has no reply.
use Rattle.std.proofs.Common.{◌≡◌, ◌==◌, ◌⊎◌, ℕ, Bool, true, false, List, [], ◌∷◌, ◌++◌, Option, Some, None, if◌then◌else◌, inl, inr, refl, sym, subst}
use Rattle.std.specs.Prelude.{Contains}
use Rattle.std.proofs.lemmas.Bool.{eqb-true}
use Rattle.std.proofs.lemmas.List.{append_assoc}
use Rattle.policy_core.specs.declared.call.Call.{Call}
use Rattle.service_step.specs.declared.reply.Reply.{Reply}
use Rattle.wire_http.specs.declared.moments.Moments as moments
use Rattle.wire_http.specs.declared.unavailable.Unavailable.{Unavailable}
use Rattle.server_watch.specs.declared.token_watch.TokenSource as sources
use Rattle.server_backend.specs.BackendEvent.{Advances, Announces, Answers as AnswersLate, BackendEvent, Forgets, Gives, GivesNone, Receives as Takes, Settles, Stops as StopsBackend, is_own, outcome_in}
use Rattle.server_backend.specs.Told.{reply_by, reply_in, reply_under}
use Rattle.server_backend.specs.declared.backend.Backend as backends
use Rattle.server_backend.specs.declared.outcome.Outcome.{Outcome}
use Rattle.server_backend.specs.declared.outcome.Outcome.TheVariants as outcomes
use Rattle.server_backend.specs.declared.outcome.Received.TheVariants as came
use Rattle.server_clients.specs.Backends.{all_backend_events}
use Rattle.server_clients.specs.ClientEvents.{Asks, EndsStream, ReadsClock, Steps}
use Rattle.server_clients.specs.ClientState.{waiting}
use Rattle.server_clients.specs.Clients.{told_text}
use Rattle.server_clients.specs.ServerEvents.{Accepts, Acts, Closes, Confirms, FollowAll, Looks, Moves, Refuses, ServerEvent, ServerState, Setup, Stops, Tells, Works}
use Rattle.server_clients.specs.Texts.{Slot, outcome_text}
use Rattle.pool_core.specs.Events.{InstanceEvent}
use Rattle.pool_core.proofs.Lists.{contains_head, contains_same, some_same}
use Rattle.pool_backend.specs.Pool.{IsGivenIn, failure_for}
use Rattle.pool_backend.specs.Served.{AreKnown, AreOfAnswer, AreParts, events_in}
use Rattle.pool_laws.proofs.Within.{contains_first, contains_last}

-- ---- the first outcome under a ticket

abbrev first_of : (ticket : ℕ) → Option (ℕ × Outcome) → (later : Option Outcome) → Option Outcome
first_of ticket None later = later
first_of ticket (Some given) later = if ticket == given.0 then Some given.1 else later

abbrev pub first_outcome : (ticket : ℕ) → List BackendEvent → Option Outcome
first_outcome ticket [] = None
first_outcome ticket (event ∷ events) = first_of ticket (outcome_in event) (first_outcome ticket events)

abbrev pub reply_with : Option Outcome → Option Reply
reply_with None = None
reply_with (Some outcome) = reply_by None outcome

reply_here : (same : Bool) (outcome : Outcome) (later : Option Outcome) (reply : Option Reply) → reply ≡ reply_with later → (if same then reply_by None outcome else reply) ≡ reply_with (if same then Some outcome else later)
reply_here true outcome later reply h = refl
reply_here false outcome later reply h = h

reply_in_event : (ticket : ℕ) (given : Option (ℕ × Outcome)) (later : Option Outcome) (reply : Option Reply) → reply ≡ reply_with later → reply_in ticket None given reply ≡ reply_with (first_of ticket given later)
reply_in_event ticket None later reply h = h
reply_in_event ticket (Some given) later reply h = reply_here (ticket == given.0) given.1 later reply h

-- The reply under a ticket is that of the first outcome.
pub reply_is : (ticket : ℕ) (events : List BackendEvent) → reply_under ticket None events ≡ reply_with (first_outcome ticket events)
reply_is ticket [] = refl
reply_is ticket (event ∷ events) = reply_in_event ticket (outcome_in event) (first_outcome ticket events) (reply_under ticket None events) (reply_is ticket events)

-- ---- what the instance did for it

pub no_reply : {P : Type 0} (reply : Reply) → None ≡ Some reply → P
no_reply reply h = absurd cc

no_outcome : {P : Type 0} (outcome : Outcome) → None ≡ Some outcome → P
no_outcome outcome h = absurd cc

one_outcome : (one two : Outcome) → Some one ≡ Some two → one ≡ two
one_outcome one two h = some_same one two h

choose : (same : Bool) (P : Type 0) (outcome : Outcome) (later : Option Outcome) (wanted : Outcome) → (same ≡ true → outcome ≡ wanted → P) → (later ≡ Some wanted → P) → (if same then Some outcome else later) ≡ Some wanted → P
choose true P outcome later wanted here there h = here refl (one_outcome outcome wanted h)
choose false P outcome later wanted here there h = there h

moved : (acc part rest : List InstanceEvent) (e : InstanceEvent) → Contains ((acc ++ part) ++ rest) e → Contains (acc ++ (part ++ rest)) e
moved acc part rest e h = subst (λ (v : List InstanceEvent). Contains v e) (append_assoc acc part rest) h

failed_later : (retention : Option ℕ) (acc : List InstanceEvent) (events : List BackendEvent) (parts : List (List InstanceEvent)) → AreParts retention events parts → AreKnown acc events parts → (ticket : ℕ) (reason : Unavailable)
    → first_outcome ticket events ≡ Some (outcomes.Unavailable reason) → Contains (acc ++ events_in parts) (failure_for reason ticket)
failed_later retention acc [] parts are known ticket reason h = no_outcome (outcomes.Unavailable reason) h
failed_later retention acc (event ∷ events) [] are known ticket reason h = absurd are
failed_later retention acc (Gives other outcome ∷ events) (part ∷ parts) are known ticket reason h =
    choose (ticket == other) (Contains (acc ++ (part ++ events_in parts)) (failure_for reason ticket)) outcome (first_outcome ticket events) (outcomes.Unavailable reason)
    (λ same is.
    let given : Contains acc (failure_for reason other) = subst (λ (o : Outcome). IsGivenIn acc other o) is known.0 in
    contains_first acc (part ++ events_in parts) (failure_for reason ticket) (subst (λ (n : ℕ). Contains acc (failure_for reason n)) (sym (eqb-true ticket other same)) given))
    (λ later. moved acc part (events_in parts) (failure_for reason ticket) (failed_later retention (acc ++ part) events parts are.1 known.1 ticket reason later)) h
failed_later retention acc (AnswersLate moment other outcome ∷ events) (part ∷ parts) are known ticket reason h =
    choose (ticket == other) (Contains (acc ++ (part ++ events_in parts)) (failure_for reason ticket)) outcome (first_outcome ticket events) (outcomes.Unavailable reason)
    (λ same is.
    let of : part ≡ failure_for reason other ∷ [] = subst (λ (o : Outcome). AreOfAnswer moment other o part) is are.0 in
    let one : Contains part (failure_for reason ticket) =
    subst (λ (n : ℕ). Contains part (failure_for reason n)) (sym (eqb-true ticket other same)) (contains_same part (failure_for reason other ∷ []) (failure_for reason other) of (contains_head (failure_for reason other) [])) in
    contains_last acc (part ++ events_in parts) (failure_for reason ticket) (contains_first part (events_in parts) (failure_for reason ticket) one))
    (λ later. moved acc part (events_in parts) (failure_for reason ticket) (failed_later retention (acc ++ part) events parts are.1 known.1 ticket reason later)) h
failed_later retention acc (Takes moment call received ∷ events) (part ∷ parts) are known ticket reason h = moved acc part (events_in parts) (failure_for reason ticket) (failed_later retention (acc ++ part) events parts are.1 known.1 ticket reason h)
failed_later retention acc (Settles ∷ events) (part ∷ parts) are known ticket reason h = moved acc part (events_in parts) (failure_for reason ticket) (failed_later retention (acc ++ part) events parts are.1 known.1 ticket reason h)
failed_later retention acc (Advances moment held now ∷ events) (part ∷ parts) are known ticket reason h = moved acc part (events_in parts) (failure_for reason ticket) (failed_later retention (acc ++ part) events parts are.1 known.1 ticket reason h)
failed_later retention acc (GivesNone ∷ events) (part ∷ parts) are known ticket reason h = moved acc part (events_in parts) (failure_for reason ticket) (failed_later retention (acc ++ part) events parts are.1 known.1 ticket reason h)
failed_later retention acc (Announces announced ∷ events) (part ∷ parts) are known ticket reason h = moved acc part (events_in parts) (failure_for reason ticket) (failed_later retention (acc ++ part) events parts are.1 known.1 ticket reason h)
failed_later retention acc (Forgets other ∷ events) (part ∷ parts) are known ticket reason h = moved acc part (events_in parts) (failure_for reason ticket) (failed_later retention (acc ++ part) events parts are.1 known.1 ticket reason h)
failed_later retention acc (StopsBackend ∷ events) (part ∷ parts) are known ticket reason h = moved acc part (events_in parts) (failure_for reason ticket) (failed_later retention (acc ++ part) events parts are.1 known.1 ticket reason h)

-- A request that waited under a ticket failed so.
pub failed_in : (retention : Option ℕ) (acc : List InstanceEvent) (before : List BackendEvent) (moment : ℕ) (made : Call) (ticket : ℕ) (after : List BackendEvent) (parts : List (List InstanceEvent))
    → AreParts retention (before ++ Takes moment made (came.Waits ticket) ∷ after) parts → AreKnown acc (before ++ Takes moment made (came.Waits ticket) ∷ after) parts → (reason : Unavailable)
    → first_outcome ticket after ≡ Some (outcomes.Unavailable reason) → Contains (acc ++ events_in parts) (failure_for reason ticket)
failed_in retention acc [] moment made ticket after [] are known reason h = absurd are
failed_in retention acc [] moment made ticket after (part ∷ parts) are known reason h = moved acc part (events_in parts) (failure_for reason ticket) (failed_later retention (acc ++ part) after parts are.1 known.1 ticket reason h)
failed_in retention acc (event ∷ before) moment made ticket after [] are known reason h = absurd are
failed_in retention acc (event ∷ before) moment made ticket after (part ∷ parts) are known reason h =
    moved acc part (events_in parts) (failure_for reason ticket) (failed_in retention (acc ++ part) before moment made ticket after parts are.1 known.1 reason h)

-- ---- its text

-- The text is empty, or that of this outcome.
abbrev pub IsOf : Slot → Option Outcome → (text : List ℕ) → Type 0
IsOf slot first text = (text ≡ []) ⊎ ((outcome : Outcome) × (first ≡ Some outcome) × (text ≡ outcome_text slot None outcome))

of_here : (slot : Slot) (same lost : Bool) (outcome : Outcome) (later : Option Outcome) (text : List ℕ) → IsOf slot later text
    → IsOf slot (if same then Some outcome else later) (if same then (if lost then [] else outcome_text slot None outcome) else text)
of_here slot true true outcome later text h = inl refl
of_here slot true false outcome later text h = inr (outcome, refl, refl)
of_here slot false lost outcome later text h = h

own_gives_none : (event : BackendEvent) → is_own event ≡ true → outcome_in event ≡ None
own_gives_none (Takes moment call received) h = refl
own_gives_none Settles h = refl
own_gives_none (Advances moment held now) h = refl
own_gives_none (Gives ticket outcome) h = absurd (let no : false ≡ true = h in cc)
own_gives_none GivesNone h = refl
own_gives_none (Announces ticket) h = refl
own_gives_none (AnswersLate moment ticket outcome) h = absurd (let no : false ≡ true = h in cc)
own_gives_none (Forgets ticket) h = refl
own_gives_none StopsBackend h = refl

module _ {B M T : Type 0} (b : backends.Ghosts B) (m : moments.Ghosts M) (t : sources.Ghosts T) (setup : Setup) (ticket : ℕ) (slot : Slot) where
  pub told_of : (events : List ServerEvent) (old new : ServerState B M T) → FollowAll b m t setup events old new → IsOf slot (first_outcome ticket (all_backend_events events)) (told_text (Some (waiting ticket slot)) events)
  told_of [] old new h = inl refl
  told_of (Tells event other outcome lost ∷ events) old new h =
      subst (λ (v : Option (ℕ × Outcome)). IsOf slot (first_of ticket v (first_outcome ticket (all_backend_events events))) (told_text (Some (waiting ticket slot)) (Tells event other outcome lost ∷ events))) (sym h.1.2)
      (of_here slot (ticket == other) lost outcome (first_outcome ticket (all_backend_events events)) (told_text (Some (waiting ticket slot)) events) (told_of events h.0 new h.2))
  told_of (Works event ∷ events) old new h =
      subst (λ (v : Option (ℕ × Outcome)). IsOf slot (first_of ticket v (first_outcome ticket (all_backend_events events))) (told_text (Some (waiting ticket slot)) events)) (sym (own_gives_none event h.1.1)) (told_of events h.0 new h.2)
  told_of (Accepts key name ∷ events) old new h = told_of events h.0 new h.2
  told_of (Refuses name ∷ events) old new h = told_of events h.0 new h.2
  told_of (Acts key name (Steps step) ∷ events) old new h = told_of events h.0 new h.2
  told_of (Acts key name (Asks asked made received texts lost) ∷ events) old new h = told_of events h.0 new h.2
  told_of (Acts key name (EndsStream end) ∷ events) old new h = told_of events h.0 new h.2
  told_of (Acts key name (ReadsClock moment) ∷ events) old new h = told_of events h.0 new h.2
  told_of (Moves moment held now ∷ events) old new h = told_of events h.0 new h.2
  told_of (Looks now found ∷ events) old new h = told_of events h.0 new h.2
  told_of (Confirms ∷ events) old new h = told_of events h.0 new h.2
  told_of (Stops ∷ events) old new h = told_of events h.0 new h.2
  told_of (Closes key ∷ events) old new h = told_of events h.0 new h.2
