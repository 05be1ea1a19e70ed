-- A reply that a backend gave is an answer of its instance.
use Rattle.std.proofs.Common.{◌≡◌, ◌∙◌, ◌==◌, ◌⊎◌, ℕ, Bool, true, false, List, [], ◌∷◌, ◌++◌, Option, Some, None, if◌then◌else◌, inl, inr, refl, sym, subst}
use Rattle.std.specs.Prelude.{Contains}
use Rattle.std.proofs.lemmas.Bool.{eqb-true}
use Rattle.std.proofs.lemmas.List.{append_assoc}
use Rattle.policy_core.specs.declared.call.Call.{Call}
use Rattle.service_step.specs.declared.reply.Reply.{Reply}
use Rattle.service_step.specs.declared.reply.Reply.TheVariants as replies
use Rattle.pool_core.specs.Events.{AfterFirst, Answers, AtOnce, Basis, Drops, InPlace, InstanceEvent, Receives}
use Rattle.pool_core.proofs.Lists.{contains_at, contains_head, contains_same, some_same}
use Rattle.server_backend.specs.BackendEvent.{Advances, Announces, Answers as AnswersLate, BackendEvent, Forgets, Gives, GivesNone, Receives as Takes, Settles, Stops}
use Rattle.server_backend.specs.Told.{reply_after, reply_by, reply_under}
use Rattle.server_backend.specs.declared.outcome.Outcome.{Outcome}
use Rattle.server_backend.specs.declared.outcome.Outcome.TheVariants as outcomes
use Rattle.server_backend.specs.declared.outcome.Received.{Received}
use Rattle.server_backend.specs.declared.outcome.Received.TheVariants as came
use Rattle.pool_backend.specs.Pool.{IsGivenIn}
use Rattle.pool_backend.specs.Served.{AreKnown, AreOfAnswer, AreOfReceipt, AreParts, events_in}
use Rattle.pool_laws.specs.Clients.{HasNumber}
use Rattle.pool_laws.proofs.Within.{contains_first, contains_last}

-- The instance answered a request so, or its memory ran out and the request failed.
abbrev pub IsAnsweredIn : List InstanceEvent → (ticket : ℕ) → Reply → Type 0
IsAnsweredIn events ticket reply = ((basis : Basis) × Contains events (Answers ticket basis reply)) ⊎ ((reply ≡ replies.Fault) × Contains events (Drops ticket))

answered_more : (events more : List InstanceEvent) (ticket : ℕ) (reply : Reply) → IsAnsweredIn events ticket reply → IsAnsweredIn (events ++ more) ticket reply
answered_more events more ticket reply h = elim h [
  | inl it ↦ inl (it.0, contains_first events more (Answers ticket it.0 reply) it.1)
  | inr it ↦ inr (it.0, contains_first events more (Drops ticket) it.1)
]

answered_last : (before events : List InstanceEvent) (ticket : ℕ) (reply : Reply) → IsAnsweredIn events ticket reply → IsAnsweredIn (before ++ events) ticket reply
answered_last before events ticket reply h = elim h [
  | inl it ↦ inl (it.0, contains_last before events (Answers ticket it.0 reply) it.1)
  | inr it ↦ inr (it.0, contains_last before events (Drops ticket) it.1)
]

no_reply : {P : Type 0} (reply : Reply) → None ≡ Some reply → P
no_reply reply h = absurd cc

choose : (same : Bool) (P : Type 0) (now later : Option Reply) (reply : Reply) → (same ≡ true → now ≡ Some reply → P) → (later ≡ Some reply → P) → (if same then now else later) ≡ Some reply → P
choose true P now later reply here there h = here refl h
choose false P now later reply here there h = there h

by_given : (acc : List InstanceEvent) (ticket other : ℕ) (outcome : Outcome) (reply : Reply) → IsGivenIn acc other outcome → other ≡ ticket → reply_by None outcome ≡ Some reply → IsAnsweredIn acc ticket reply
by_given acc ticket other outcomes.Stands reply given same h = absurd given
by_given acc ticket other (outcomes.Replied made) reply given same h =
    inl (InPlace, subst (λ (n : ℕ). Contains acc (Answers n InPlace reply)) same (subst (λ (r : Reply). Contains acc (Answers other InPlace r)) (some_same made reply h) given))
by_given acc ticket other (outcomes.Unavailable reason) reply given same h = no_reply reply h

by_late : (moment ticket other : ℕ) (outcome : Outcome) (part : List InstanceEvent) (reply : Reply) → AreOfAnswer moment other outcome part → other ≡ ticket → reply_by None outcome ≡ Some reply → IsAnsweredIn part ticket reply
by_late moment ticket other outcomes.Stands part reply is same h = absurd is
by_late moment ticket other (outcomes.Replied made) part reply is same h = elim is [
  | inl it ↦ inl (
    AfterFirst it.0 (moment, it.1),
    subst (λ (n : ℕ). Contains part (Answers n (AfterFirst it.0 (moment, it.1)) reply)) same
        (subst (λ (r : Reply). Contains part (Answers other (AfterFirst it.0 (moment, it.1)) r)) (some_same made reply h)
        (contains_same part (Answers other (AfterFirst it.0 (moment, it.1)) made ∷ []) (Answers other (AfterFirst it.0 (moment, it.1)) made) it.2 (contains_head (Answers other (AfterFirst it.0 (moment, it.1)) made) []))),
  )
  | inr it ↦ inr (sym (some_same made reply h) ∙ it.0, subst (λ (n : ℕ). Contains part (Drops n)) same (contains_same part (Drops other ∷ []) (Drops other) it.1 (contains_head (Drops other) [])))
]
by_late moment ticket other (outcomes.Unavailable reason) part reply is same h = no_reply reply h

moved : (acc part rest : List InstanceEvent) (ticket : ℕ) (reply : Reply) → IsAnsweredIn ((acc ++ part) ++ rest) ticket reply → IsAnsweredIn (acc ++ (part ++ rest)) ticket reply
moved acc part rest ticket reply h = subst (λ (v : List InstanceEvent). IsAnsweredIn v ticket reply) (append_assoc acc part rest) h

-- The outcome under a ticket.
answered_later : (retention : Option ℕ) (acc : List InstanceEvent) (events : List BackendEvent) (parts : List (List InstanceEvent)) → AreParts retention events parts → AreKnown acc events parts → (ticket : ℕ) (reply : Reply)
    → reply_under ticket None events ≡ Some reply → IsAnsweredIn (acc ++ events_in parts) ticket reply
answered_later retention acc [] parts are known ticket reply h = no_reply reply h
answered_later retention acc (event ∷ events) [] are known ticket reply h = absurd are
answered_later retention acc (Gives other outcome ∷ events) (part ∷ parts) are known ticket reply h =
    choose (ticket == other) (IsAnsweredIn (acc ++ (part ++ events_in parts)) ticket reply) (reply_by None outcome) (reply_under ticket None events) reply
    (λ same made. answered_more acc (part ++ events_in parts) ticket reply (by_given acc ticket other outcome reply known.0 (sym (eqb-true ticket other same)) made))
    (λ later. moved acc part (events_in parts) ticket reply (answered_later retention (acc ++ part) events parts are.1 known.1 ticket reply later)) h
answered_later retention acc (AnswersLate moment other outcome ∷ events) (part ∷ parts) are known ticket reply h =
    choose (ticket == other) (IsAnsweredIn (acc ++ (part ++ events_in parts)) ticket reply) (reply_by None outcome) (reply_under ticket None events) reply
    (λ same made. answered_last acc (part ++ events_in parts) ticket reply (answered_more part (events_in parts) ticket reply (by_late moment ticket other outcome part reply are.0 (sym (eqb-true ticket other same)) made)))
    (λ later. moved acc part (events_in parts) ticket reply (answered_later retention (acc ++ part) events parts are.1 known.1 ticket reply later)) h
answered_later retention acc (Takes moment call received ∷ events) (part ∷ parts) are known ticket reply h = moved acc part (events_in parts) ticket reply (answered_later retention (acc ++ part) events parts are.1 known.1 ticket reply h)
answered_later retention acc (Settles ∷ events) (part ∷ parts) are known ticket reply h = moved acc part (events_in parts) ticket reply (answered_later retention (acc ++ part) events parts are.1 known.1 ticket reply h)
answered_later retention acc (Advances moment held now ∷ events) (part ∷ parts) are known ticket reply h = moved acc part (events_in parts) ticket reply (answered_later retention (acc ++ part) events parts are.1 known.1 ticket reply h)
answered_later retention acc (GivesNone ∷ events) (part ∷ parts) are known ticket reply h = moved acc part (events_in parts) ticket reply (answered_later retention (acc ++ part) events parts are.1 known.1 ticket reply h)
answered_later retention acc (Announces announced ∷ events) (part ∷ parts) are known ticket reply h = moved acc part (events_in parts) ticket reply (answered_later retention (acc ++ part) events parts are.1 known.1 ticket reply h)
answered_later retention acc (Forgets other ∷ events) (part ∷ parts) are known ticket reply h = moved acc part (events_in parts) ticket reply (answered_later retention (acc ++ part) events parts are.1 known.1 ticket reply h)
answered_later retention acc (Stops ∷ events) (part ∷ parts) are known ticket reply h = moved acc part (events_in parts) ticket reply (answered_later retention (acc ++ part) events parts are.1 known.1 ticket reply h)

-- ---- a request and its reply

-- A request that the instance received in some events, and answered in them.
pub record IsOfRequest (received : Received) (made : Call) (reply : Reply) (events : List InstanceEvent) : Type 0 where
  pub id : ℕ
  pub has : HasNumber received id
  pub receives : Contains events (Receives id made)
  pub answered : IsAnsweredIn events id reply

request_after : (retention : Option ℕ) (acc : List InstanceEvent) (moment : ℕ) (made : Call) (received : Received) (part : List InstanceEvent) (events : List BackendEvent) (parts : List (List InstanceEvent))
    → AreOfReceipt moment made received part → AreParts retention events parts → AreKnown (acc ++ part) events parts → (reply : Reply) → reply_after received events ≡ Some reply → IsOfRequest received made reply (acc ++ (part ++ events_in parts))
request_after retention acc moment made (came.Answered given) part events parts is are known reply h =
    let both = Receives is.0 made ∷ Answers is.0 (AtOnce (moment, made)) given ∷ [] in
    let receipt = contains_same part both (Receives is.0 made) is.1 (contains_head (Receives is.0 made) (Answers is.0 (AtOnce (moment, made)) given ∷ [])) in
    let answer = contains_same part both (Answers is.0 (AtOnce (moment, made)) given) is.1 (contains_at (Receives is.0 made ∷ []) (Answers is.0 (AtOnce (moment, made)) given) []) in
    record {
      id = is.0;
      has = tt;
      receives = contains_last acc (part ++ events_in parts) (Receives is.0 made) (contains_first part (events_in parts) (Receives is.0 made) receipt);
      answered = inl (
        AtOnce (moment, made),
        subst (λ (r : Reply). Contains (acc ++ (part ++ events_in parts)) (Answers is.0 (AtOnce (moment, made)) r)) (some_same given reply h)
            (contains_last acc (part ++ events_in parts) (Answers is.0 (AtOnce (moment, made)) given) (contains_first part (events_in parts) (Answers is.0 (AtOnce (moment, made)) given) answer)),
      );
    }
request_after retention acc moment made (came.Drafted ticket draft) part events parts is are known reply h = absurd is
request_after retention acc moment made (came.Waits ticket) part events parts is are known reply h =
    let receipt = contains_same part (Receives ticket made ∷ []) (Receives ticket made) is (contains_head (Receives ticket made) []) in
    record {
      id = ticket;
      has = refl;
      receives = contains_last acc (part ++ events_in parts) (Receives ticket made) (contains_first part (events_in parts) (Receives ticket made) receipt);
      answered = moved acc part (events_in parts) ticket reply (answered_later retention (acc ++ part) events parts are known ticket reply h);
    }
request_after retention acc moment made (came.Refused reason) part events parts is are known reply h = no_reply reply h

pub request_in : (retention : Option ℕ) (acc : List InstanceEvent) (before : List BackendEvent) (moment : ℕ) (made : Call) (received : Received) (after : List BackendEvent) (parts : List (List InstanceEvent))
    → AreParts retention (before ++ Takes moment made received ∷ after) parts → AreKnown acc (before ++ Takes moment made received ∷ after) parts → (reply : Reply) → reply_after received after ≡ Some reply
    → IsOfRequest received made reply (acc ++ events_in parts)
request_in retention acc [] moment made received after [] are known reply h = absurd are
request_in retention acc [] moment made received after (part ∷ parts) are known reply h = request_after retention acc moment made received part after parts are.0 are.1 known.1 reply h
request_in retention acc (event ∷ before) moment made received after [] are known reply h = absurd are
request_in retention acc (event ∷ before) moment made received after (part ∷ parts) are known reply h =
    subst (λ (v : List InstanceEvent). IsOfRequest received made reply v) (append_assoc acc part (events_in parts)) (request_in retention (acc ++ part) before moment made received after parts are.1 known.1 reply h)
