-- Lemmas: the events of an instance for those of its backend.
use Rattle.std.proofs.Common.{◌≡◌, ℕ, List, [], ◌∷◌, ◌++◌, Option, refl, sym, subst, inl, inr, ap}
use Rattle.std.proofs.lemmas.List.Elements.{All-head, All-tail}
use Rattle.entity_core.specs.Airspace.{Airspace}
use Rattle.space_core.specs.declared.space.Space as spaces
use Rattle.pool_core.specs.Events.{AfterFirst, Answers, AtOnce, Drops, InstanceEvent, Receives}
use Rattle.pool_core.specs.Log.{LogEvent}
use Rattle.pool_core.specs.Serves.{ServesPool}
use Rattle.pool_core.specs.declared.log.Log as logs
use Rattle.pool_entry.specs.Acts.{acts_of}
use Rattle.pool_instance.specs.Does.{Did}
use Rattle.pool_instance.specs.Parts.{log_of, retention_in, salt_in}
use Rattle.pool_instance.specs.Purging.{AreAgreed}
use Rattle.pool_instance.specs.State.{IsAfter}
use Rattle.pool_instance.specs.declared.instance.Instance.{Instance}
use Rattle.server_backend.specs.BackendEvent.{Advances, Announces, Answers as AnswersLate, BackendEvent, Forgets, Gives, GivesNone, Receives as ReceivesRequest, Settles, Stops}
use Rattle.server_backend.specs.Does.{DoesAll}
use Rattle.server_backend.specs.declared.outcome.Outcome.{Outcome}
use Rattle.server_backend.specs.declared.outcome.Outcome.TheVariants as outcomes
use Rattle.server_backend.specs.declared.outcome.Received.TheVariants as came
use Rattle.pool_backend.specs.Pool.{AnswersAs, AreGivenIn, DoesBy, IsFailure, IsGivenIn, IsSame, MayDo, StepsAs, failure_for, instance_of, outcomes_of, retention_of, tickets_of}
use Rattle.pool_backend.specs.Served.{AreKnown, AreOf, AreParts, EventsAreThePools, IsKnown, OutcomesAreGiven, ServesOn, Story, events_in}
use Rattle.pool_backend.specs.declared.pool.PoolInstance.{PoolInstance}
use Rattle.pool_instance.proofs.Looked.{did_then}
use Rattle.pool_backend.proofs.Did.{did_none}
use Rattle.pool_backend.proofs.Does.{are_given_left, are_given_right, for_same, given_append}

parts_with : (r s : Option ℕ) (events : List BackendEvent) (parts : List (List InstanceEvent)) → r ≡ s → AreParts r events parts → AreParts s events parts
parts_with r s events parts same h = subst (λ (v : Option ℕ). AreParts v events parts) same h

module _ {L S : Type 0} (gl : logs.Ghosts L) (gs : spaces.Ghosts S) where
  serves_on : (these : List InstanceEvent) (old new : Instance L S) → Did gl gs old these new → (past : Option (List LogEvent)) (start : Airspace) (before : List InstanceEvent)
      → IsAfter gl gs past start before old → ServesOn gl gs past start before these old new
  serves_on these old new did past start before is =
      let after = did.after past start before is in
      record {
        after = after;
        serves = λ sound.
            subst (λ (v : List ℕ). ServesPool acts_of v start (gl.writer (log_of old)) (before ++ these)) did.salt
            (subst (λ (v : ℕ). ServesPool acts_of (salt_in new) start v (before ++ these)) did.writer (after.serves sound));
        agreed =
            subst (λ (v : Option ℕ). AreAgreed v (gl.writer (log_of old)) (before ++ these)) did.retention
            (subst (λ (v : ℕ). AreAgreed (retention_in new) v (before ++ these)) did.writer after.agreed);
        logged = after.logged;
      }

module _ {L I S : Type 0} (gl : logs.Ghosts L) (gs : spaces.Ghosts S) where
  -- The events of the instance for an event of the backend, and what is known of its outcomes.
  record Part (event : BackendEvent) (x x' : PoolInstance L I S) : Type 0 where
    these : List InstanceEvent
    are_of : AreOf (retention_of x) event these
    did : Did gl gs (instance_of x) these (instance_of x')
    known : (before : List InstanceEvent) → AreGivenIn before (outcomes_of x) → IsKnown before event
    left : (before : List InstanceEvent) → AreGivenIn before (outcomes_of x) → AreGivenIn (before ++ these) (outcomes_of x')

  same_left : (x x' : PoolInstance L I S) (these before : List InstanceEvent) → outcomes_of x' ≡ outcomes_of x → AreGivenIn before (outcomes_of x) → AreGivenIn (before ++ these) (outcomes_of x')
  same_left x x' these before same h = subst (λ (v : List (ℕ × Outcome)). AreGivenIn (before ++ these) v) (sym same) (are_given_left before these (outcomes_of x) h)

  more_left : (may : InstanceEvent → Type 0) (x x' : PoolInstance L I S) (h : DoesBy gl gs may x x') (before : List InstanceEvent) → AreGivenIn before (outcomes_of x) → AreGivenIn (before ++ h.events) (outcomes_of x')
  more_left may x x' h before was =
      subst (λ (v : List (ℕ × Outcome)). AreGivenIn (before ++ h.events) v) (sym h.left)
      (given_append (before ++ h.events) (outcomes_of x) h.given (are_given_left before h.events (outcomes_of x) was) (are_given_right before h.events h.given h.are_given))

  of_answer : (moment ticket : ℕ) (outcome : Outcome) (x x' : PoolInstance L I S) → AnswersAs gl gs moment ticket outcome x x' → Part (AnswersLate moment ticket outcome) x x'
  of_answer moment ticket outcomes.Stands x x' h = absurd h
  of_answer moment ticket (outcomes.Replied reply) x x' h =
      elim h [
        | inl a ↦ record {
          these = Answers ticket (AfterFirst a.0 (moment, a.1)) reply ∷ [];
          are_of = inl (a.0, a.1, refl);
          did = a.2.did;
          known = λ before was. tt;
          left = λ before was. same_left x x' (Answers ticket (AfterFirst a.0 (moment, a.1)) reply ∷ []) before a.2.left was;
        }
        | inr b ↦ record {
          these = Drops ticket ∷ [];
          are_of = inr (b.0, refl);
          did = b.1.did;
          known = λ before was. tt;
          left = λ before was. same_left x x' (Drops ticket ∷ []) before b.1.left was;
        }
      ]
  of_answer moment ticket (outcomes.Unavailable reason) x x' h = record {
    these = failure_for reason ticket ∷ [];
    are_of = refl;
    did = h.did;
    known = λ before was. tt;
    left = λ before was. same_left x x' (failure_for reason ticket ∷ []) before h.left was;
  }

  still : (x x' : PoolInstance L I S) → x' ≡ x → IsSame x x'
  still x x' h = record { instance = ap (λ (v : PoolInstance L I S). instance_of v) h; outcomes = ap (λ (v : PoolInstance L I S). outcomes_of v) h }

  part_of : (x : PoolInstance L I S) (event : BackendEvent) (x' : PoolInstance L I S) → StepsAs gl gs x event x' → Part event x x'
  part_of x (ReceivesRequest moment call (came.Answered reply)) x' h = record {
    these = Receives (tickets_of x) call ∷ Answers (tickets_of x) (AtOnce (moment, call)) reply ∷ [];
    are_of = (tickets_of x, refl);
    did = h.did;
    known = λ before was. tt;
    left = λ before was. same_left x x' (Receives (tickets_of x) call ∷ Answers (tickets_of x) (AtOnce (moment, call)) reply ∷ []) before h.left was;
  }
  part_of x (ReceivesRequest moment call (came.Drafted ticket reply)) x' h = absurd h
  part_of x (ReceivesRequest moment call (came.Waits ticket)) x' h = record {
    these = Receives ticket call ∷ [];
    are_of = refl;
    did = h.1.did;
    known = λ before was. tt;
    left = λ before was. same_left x x' (Receives ticket call ∷ []) before h.1.left was;
  }
  part_of x (ReceivesRequest moment call (came.Refused reason)) x' h = record {
    these = [];
    are_of = refl;
    did = h.did;
    known = λ before was. tt;
    left = λ before was. same_left x x' [] before h.left was;
  }
  part_of x Settles x' h =
      let same = still x x' h in
      record { these = []; are_of = refl; did = (for_same gl gs x x' same).did; known = λ before was. tt; left = λ before was. same_left x x' [] before same.outcomes was }
  part_of x (Advances moment held now) x' h = record {
    these = h.events;
    are_of = h.allowed;
    did = h.did;
    known = λ before was. tt;
    left = λ before was. more_left (MayDo (retention_of x) moment held) x x' h before was;
  }
  part_of x (Gives ticket outcome) x' h =
      let each : List InstanceEvent → ℕ × Outcome → Type 0 = λ before e. IsGivenIn before e.0 e.1 in
      let split : (before : List InstanceEvent) → AreGivenIn before (outcomes_of x) → AreGivenIn before ((ticket, outcome) ∷ outcomes_of x') =
      λ before was. subst (λ (v : List (ℕ × Outcome)). AreGivenIn before v) h.1 was in
      record {
        these = [];
        are_of = refl;
        did = subst (λ (i : Instance L S). Did gl gs (instance_of x) [] i) (sym h.0) (did_none gl gs (instance_of x));
        known = λ before was. All-head (each before) (ticket, outcome) (outcomes_of x') (split before was);
        left = λ before was. are_given_left before [] (outcomes_of x') (All-tail (each before) (ticket, outcome) (outcomes_of x') (split before was));
      }
  part_of x GivesNone x' h = record { these = []; are_of = refl; did = (for_same gl gs x x' h.1).did; known = λ before was. tt; left = λ before was. same_left x x' [] before h.1.outcomes was }
  part_of x (Announces ticket) x' h = record { these = []; are_of = refl; did = h.0.did; known = λ before was. tt; left = λ before was. same_left x x' [] before h.0.left was }
  part_of x (AnswersLate moment ticket outcome) x' h = of_answer moment ticket outcome x x' h
  part_of x (Forgets ticket) x' h = record {
    these = h.events;
    are_of = h.failure;
    did = h.does.did;
    known = λ before was. tt;
    left = λ before was. same_left x x' h.events before h.does.left was;
  }
  part_of x Stops x' h = record {
    these = h.events;
    are_of = h.allowed;
    did = h.did;
    known = λ before was. tt;
    left = λ before was. more_left IsFailure x x' h before was;
  }

  -- The parts of some events, and what is known of their outcomes.
  record Told (events : List BackendEvent) (x x' : PoolInstance L I S) : Type 0 where
    parts : List (List InstanceEvent)
    are_parts : AreParts (retention_of x) events parts
    did : Did gl gs (instance_of x) (events_in parts) (instance_of x')
    known : (before : List InstanceEvent) → AreGivenIn before (outcomes_of x) → AreKnown before events parts

  told : (events : List BackendEvent) (x x' : PoolInstance L I S) → DoesAll (StepsAs gl gs) events x x' → Told events x x'
  told [] x x' h = record {
    parts = [];
    are_parts = tt;
    did = subst (λ (i : Instance L S). Did gl gs (instance_of x) [] i) (ap (λ (v : PoolInstance L I S). instance_of v) (sym h)) (did_none gl gs (instance_of x));
    known = λ before was. tt;
  }
  told (event ∷ events) x x' h =
      let p = part_of x event h.0 h.1 in
      let t = told events h.0 x' h.2 in
      record {
        parts = p.these ∷ t.parts;
        are_parts = (p.are_of, parts_with (retention_of h.0) (retention_of x) events t.parts p.did.retention t.are_parts);
        did = did_then gl gs (instance_of x) p.these (instance_of h.0) (events_in t.parts) (instance_of x') p.did t.did;
        known = λ before was. (p.known before was, t.known (before ++ p.these) (p.left before was));
      }

  abbrev story_of : (events : List BackendEvent) (x x' : PoolInstance L I S) → Told events x x' → Story gl gs events x x'
  story_of events x x' t = record {
    parts = t.parts;
    are_parts = t.are_parts;
    serves = λ past start before is. serves_on gl gs (events_in t.parts) (instance_of x) (instance_of x') t.did past start before is;
  }

pub are_the_pools : {L S : Type 0} (I : Type 0) (gl : logs.Ghosts L) (gs : spaces.Ghosts S) → EventsAreThePools I gl gs
are_the_pools I gl gs events old new h = story_of gl gs events old new (told gl gs events old new h)

pub are_given : {L S : Type 0} (I : Type 0) (gl : logs.Ghosts L) (gs : spaces.Ghosts S) → OutcomesAreGiven I gl gs
are_given I gl gs events old new h = let t = told gl gs events old new h in (story_of gl gs events old new t, λ before was. t.known before was)
