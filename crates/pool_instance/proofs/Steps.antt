-- Lemmas: what is read off events, after one more event.
use Rattle.std.proofs.Common.{◌≡◌, ℕ, ◌+◌, ◌≤◌, List, [], ◌∷◌, ◌++◌, ap, ◌∙◌, arith, inl, inr, append_assoc}
use Rattle.std.specs.Prelude.{Contains}
use Rattle.std.specs.List.{flat_map}
use Rattle.std.proofs.lemmas.List.{append-nil}
use Rattle.std.proofs.lemmas.List.Concat.{flat_map-append}
use Rattle.std.proofs.lemmas.List.Elements.{Contains-append_left, Contains-push_cases}
use Rattle.policy_core.specs.declared.call.Call.{Call}
use Rattle.pool_core.specs.Events.{AsksForEnd, InstanceEvent, LearnsEnd, Receives}
use Rattle.pool_core.specs.Serves.{IsOpen, ReachesEnd, ended_in, ids_ended, ids_offered, offered_in, times}
use Rattle.pool_core.proofs.Lists.{contains_split}
use Rattle.pool_instance.specs.State.{AskedSince, IsAtStage, IsHeld}
use Rattle.pool_instance.specs.Request.{call_of}
use Rattle.pool_instance.specs.declared.waiting.Held.{Held}
use Rattle.pool_instance.specs.declared.waiting.Stage.{Stage}
use Rattle.pool_instance.specs.declared.waiting.Stage.TheVariants.{Asked, Fresh, Until}
use Rattle.pool_instance.proofs.Times.{times_append}

-- Holds if an event receives no request.
abbrev pub IsNoReceipt : InstanceEvent → Type 0
IsNoReceipt e = (id : ℕ) (call : Call) → e ≡ Receives id call → ⊥

pub read_more : {X : Type 0} (f : InstanceEvent → List X) (before : List InstanceEvent) (e : InstanceEvent) → flat_map f (before ++ e ∷ []) ≡ flat_map f before ++ f e
read_more f before e = flat_map-append f before (e ∷ []) ∙ ap (λ v. flat_map f before ++ v) (append-nil (f e))

pub ended_more : (id : ℕ) (before : List InstanceEvent) (e : InstanceEvent) → times id (ids_ended (before ++ e ∷ [])) ≡ times id (ids_ended before) + times id (ended_in e)
ended_more id before e = ap (λ v. times id v) (read_more ended_in before e) ∙ times_append id (ids_ended before) (ended_in e)

pub offered_more : (id : ℕ) (before : List InstanceEvent) (e : InstanceEvent) → times id (ids_offered (before ++ e ∷ [])) ≡ times id (ids_offered before) + times id (offered_in e)
offered_more id before e = ap (λ v. times id v) (read_more offered_in before e) ∙ times_append id (ids_offered before) (offered_in e)

-- ---- open requests

pub open_more : (events : List InstanceEvent) (e : InstanceEvent) (id : ℕ) (call : Call) → IsOpen events id call → times id (ended_in e) ≡ 0 → IsOpen (events ++ e ∷ []) id call
open_more events e id call h none = record {
  received = Contains-append_left events (e ∷ []) (Receives id call) h.received;
  unended = omega (arith, ended_more id events e, h.unended, none);
}

pub received_before : (events : List InstanceEvent) (e : InstanceEvent) (id : ℕ) (call : Call) → IsNoReceipt e → Contains (events ++ e ∷ []) (Receives id call) → Contains events (Receives id call)
received_before events e id call plain h = elim (Contains-push_cases events e (Receives id call) h) [
  | inl before ↦ before
  | inr same ↦ absurd (plain id call same)
]

pub open_before : (events : List InstanceEvent) (e : InstanceEvent) (id : ℕ) (call : Call) → IsNoReceipt e → IsOpen (events ++ e ∷ []) id call → IsOpen events id call
open_before events e id call plain h = record {
  received = received_before events e id call plain h.received;
  unended = omega (arith, ended_more id events e, h.unended);
}

pub held_more : (events : List InstanceEvent) (e : InstanceEvent) (h : Held) → IsHeld events h → times h.id (ended_in e) ≡ 0 → times h.id (offered_in e) ≡ 0 → IsHeld (events ++ e ∷ []) h
held_more events e h is unended unoffered = record {
  opens = open_more events e h.id (call_of h.request) is.opens unended;
  unoffered = omega (arith, offered_more h.id events e, is.unoffered, unoffered);
}

-- ---- stages

-- The events after a receipt and a question, with more.
asked_more : (events more : List InstanceEvent) (id : ℕ) (call : Call) (q : ℕ) → AskedSince events id call q → AskedSince (events ++ more) id call q
asked_more events more id call q a = record {
  earlier = a.earlier;
  waiting = a.waiting;
  later = a.later ++ more;
  asked = ap (λ v. v ++ more) a.asked ∙ append_assoc a.earlier (Receives id call ∷ (a.waiting ++ AsksForEnd q ∷ a.later)) more
      ∙ ap (λ v. a.earlier ++ Receives id call ∷ v) (append_assoc a.waiting (AsksForEnd q ∷ a.later) more);
}

reaches_more : (events more : List InstanceEvent) (id : ℕ) (call : Call) (count : ℕ) → ReachesEnd events id call count → ReachesEnd (events ++ more) id call count
reaches_more events more id call count r =
    let learned = LearnsEnd r.question r.end ∷ r.later in
    record {
      earlier = r.earlier;
      waiting = r.waiting;
      asking = r.asking;
      later = r.later ++ more;
      question = r.question;
      end = r.end;
      events = ap (λ v. v ++ more) r.events ∙ append_assoc r.earlier (Receives id call ∷ (r.waiting ++ AsksForEnd r.question ∷ (r.asking ++ learned))) more
          ∙ ap (λ v. r.earlier ++ Receives id call ∷ v) (append_assoc r.waiting (AsksForEnd r.question ∷ (r.asking ++ learned)) more
          ∙ ap (λ v. r.waiting ++ AsksForEnd r.question ∷ v) (append_assoc r.asking learned more));
      reached = r.reached;
    }

pub reaches_later : (events : List InstanceEvent) (id : ℕ) (call : Call) (count more : ℕ) → ReachesEnd events id call count → count ≤ more → ReachesEnd events id call more
reaches_later events id call count more r le = record {
  earlier = r.earlier;
  waiting = r.waiting;
  asking = r.asking;
  later = r.later;
  question = r.question;
  end = r.end;
  events = r.events;
  reached = omega (arith, r.reached, le);
}

pub stage_more : (events more : List InstanceEvent) (id : ℕ) (call : Call) (s : Stage) → IsAtStage events id call s → IsAtStage (events ++ more) id call s
stage_more events more id call Fresh h = tt
stage_more events more id call (Asked q) h = asked_more events more id call q h
stage_more events more id call (Until count) h = reaches_more events more id call count h

-- A question is for each request that was received before.
pub asks_for : (events : List InstanceEvent) (id : ℕ) (call : Call) (q : ℕ) → Contains events (Receives id call) → AskedSince (events ++ AsksForEnd q ∷ []) id call q
asks_for events id call q h =
    let s = contains_split events (Receives id call) h in
    record {
      earlier = s.front;
      waiting = s.back;
      later = [];
      asked = ap (λ v. v ++ AsksForEnd q ∷ []) s.split ∙ append_assoc s.front (Receives id call ∷ s.back) (AsksForEnd q ∷ []);
    }

-- An answer to a question after a request.
pub learns_for : (events : List InstanceEvent) (id : ℕ) (call : Call) (q count : ℕ) → AskedSince events id call q → ReachesEnd (events ++ LearnsEnd q count ∷ []) id call count
learns_for events id call q count a =
    let learned = LearnsEnd q count ∷ [] in
    record {
      earlier = a.earlier;
      waiting = a.waiting;
      asking = a.later;
      later = [];
      question = q;
      end = count;
      events = ap (λ v. v ++ learned) a.asked ∙ append_assoc a.earlier (Receives id call ∷ (a.waiting ++ AsksForEnd q ∷ a.later)) learned
          ∙ ap (λ v. a.earlier ++ Receives id call ∷ v) (append_assoc a.waiting (AsksForEnd q ∷ a.later) learned);
      reached = omega arith;
    }
