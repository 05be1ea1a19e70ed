-- Lemmas: what an instance does, and the outcomes that are to be given for it.
use Rattle.std.proofs.Common.{◌≡◌, ℕ, Bool, true, false, List, [], ◌∷◌, ◌++◌, map, Option, Some, None, Result, Ok, Err, refl, sym, ap, subst, ◌∙◌, inl, inr, append_assoc}
use Rattle.std.specs.Prelude.{All}
use Rattle.std.specs.declared.vec.Vec.{Vec}
use Rattle.std.proofs.lemmas.List.{append-nil}
use Rattle.std.proofs.lemmas.List.Elements.{All-append, All-cons, All-nil, All-weaker, Contains-append_left, Contains-append_right}
use Rattle.service_step.specs.declared.reply.Reply.{Reply}
use Rattle.space_core.specs.declared.space.Space as spaces
use Rattle.wire_http.specs.declared.unavailable.Unavailable.{Unavailable}
use Rattle.pool_core.specs.Events.{AfterFirst, Answers, AsksForEnd, Drops, Fails, Gets, InPlace, InstanceEvent, LearnsEnd, Offers, Receives}
use Rattle.pool_core.specs.declared.log.Log as logs
use Rattle.pool_core.proofs.Lists.{contains_head, contains_same}
use Rattle.pool_instance.specs.Does.{AnsweredAs, Did, GaveUpSo, TookSo, in_place}
use Rattle.pool_instance.specs.Parts.{count_taken, retention_in}
use Rattle.pool_instance.specs.declared.fault.InstanceFault.{InstanceFault}
use Rattle.pool_instance.specs.declared.instance.Instance.{Instance}
use Rattle.pool_instance.specs.declared.outcome.Outcome.{Outcome as ReadingOutcome}
use Rattle.pool_instance.specs.declared.outcome.Outcome.TheVariants.{Failed, Replied}
use Rattle.pool_instance.specs.declared.outcome.Unanswered.{Unanswered}
use Rattle.pool_instance.specs.declared.outcome.Unanswered.TheVariants as unanswered
use Rattle.server_backend.specs.declared.outcome.Outcome.{Outcome}
use Rattle.server_backend.specs.declared.outcome.Outcome.TheVariants as outcomes
use Rattle.pool_backend.specs.Own.{DoesOwn, GivesAmong, MayGive, failure_of, outcome_of, reason_of}
use Rattle.pool_backend.specs.Pool.{AnswersAs, AreGivenIn, DoesBy, DoesFor, ForgetsAs, IsFailure, IsGivenIn, IsSame, MayDo, failure_for, instance_of, outcomes_of, retention_of}
use Rattle.pool_backend.specs.declared.pool.PoolInstance.{PoolInstance}
use Rattle.pool_instance.proofs.Looked.{did_then}
use Rattle.pool_backend.proofs.Did.{did_none}
use Rattle.pool_backend.proofs.Own.{own_failed, own_nothing}

-- ---- outcomes

is_given_left : (xs ys : List InstanceEvent) (ticket : ℕ) (outcome : Outcome) → IsGivenIn xs ticket outcome → IsGivenIn (xs ++ ys) ticket outcome
is_given_left xs ys ticket outcomes.Stands h = absurd h
is_given_left xs ys ticket (outcomes.Replied reply) h = Contains-append_left xs ys (Answers ticket InPlace reply) h
is_given_left xs ys ticket (outcomes.Unavailable reason) h = Contains-append_left xs ys (failure_for reason ticket) h

is_given_right : (xs ys : List InstanceEvent) (ticket : ℕ) (outcome : Outcome) → IsGivenIn ys ticket outcome → IsGivenIn (xs ++ ys) ticket outcome
is_given_right xs ys ticket outcomes.Stands h = absurd h
is_given_right xs ys ticket (outcomes.Replied reply) h = Contains-append_right xs ys (Answers ticket InPlace reply) h
is_given_right xs ys ticket (outcomes.Unavailable reason) h = Contains-append_right xs ys (failure_for reason ticket) h

pub are_given_left : (xs ys : List InstanceEvent) (given : List (ℕ × Outcome)) → AreGivenIn xs given → AreGivenIn (xs ++ ys) given
are_given_left xs ys given h =
    All-weaker (λ (each : ℕ × Outcome). IsGivenIn xs each.0 each.1) (λ (each : ℕ × Outcome). IsGivenIn (xs ++ ys) each.0 each.1) (λ each p. is_given_left xs ys each.0 each.1 p) given h

pub are_given_right : (xs ys : List InstanceEvent) (given : List (ℕ × Outcome)) → AreGivenIn ys given → AreGivenIn (xs ++ ys) given
are_given_right xs ys given h =
    All-weaker (λ (each : ℕ × Outcome). IsGivenIn ys each.0 each.1) (λ (each : ℕ × Outcome). IsGivenIn (xs ++ ys) each.0 each.1) (λ each p. is_given_right xs ys each.0 each.1 p) given h

pub given_none : (events : List InstanceEvent) → AreGivenIn events []
given_none events = All-nil (λ (each : ℕ × Outcome). IsGivenIn events each.0 each.1)

pub given_append : (events : List InstanceEvent) (xs ys : List (ℕ × Outcome)) → AreGivenIn events xs → AreGivenIn events ys → AreGivenIn events (xs ++ ys)
given_append events xs ys p q = All-append (λ (each : ℕ × Outcome). IsGivenIn events each.0 each.1) xs ys p q

pub given_one : (events : List InstanceEvent) (ticket : ℕ) (outcome : Outcome) → IsGivenIn events ticket outcome → AreGivenIn events ((ticket, outcome) ∷ [])
given_one events ticket outcome h = All-cons (λ (each : ℕ × Outcome). IsGivenIn events each.0 each.1) (ticket, outcome) [] h (given_none events)

-- ---- events

pub failure_may : (retention moment : Option ℕ) (held : Bool) (e : InstanceEvent) → IsFailure e → MayDo retention moment held e
failure_may retention moment held (Receives id call) h = absurd h
failure_may retention moment held (Offers ids bytes) h = absurd h
failure_may retention moment held (Gets entry) h = absurd h
failure_may retention moment held (AsksForEnd question) h = absurd h
failure_may retention moment held (LearnsEnd question count) h = absurd h
failure_may retention moment held (Answers id basis reply) h = absurd h
failure_may retention moment held (Fails id) h = tt
failure_may retention moment held (Drops id) h = tt

failure_is : (why : Unanswered) (id : ℕ) → IsFailure (failure_of why id)
failure_is unanswered.Unsent id = tt
failure_is unanswered.Unknown id = tt

pub reason_is : (assigned : Bool) (why : Unanswered) (id : ℕ) → failure_for (reason_of assigned why) id ≡ failure_of why id
reason_is true unanswered.Unsent id = refl
reason_is false unanswered.Unsent id = refl
reason_is true unanswered.Unknown id = refl
reason_is false unanswered.Unknown id = refl

told_may : (retention moment : Option ℕ) (held : Bool) (told : List (ℕ × Reply)) → All (MayDo retention moment held) (map in_place told)
told_may retention moment held [] = All-nil (MayDo retention moment held)
told_may retention moment held (t ∷ told) = All-cons (MayDo retention moment held) (in_place t) (map in_place told) tt (told_may retention moment held told)

module _ {L S : Type 0} (gl : logs.Ghosts L) (gs : spaces.Ghosts S) where
  gave_up : (id : ℕ) (old new : Instance L S) (why : Unanswered) → GaveUpSo gl gs id old new (Some why) → Did gl gs old (failure_of why id ∷ []) new
  gave_up id old new unanswered.Unsent h = h.0
  gave_up id old new unanswered.Unknown h = h.0

  pub gave_up_for : (id : ℕ) (old new : Instance L S) (why : Unanswered) (reason : Unavailable) → GaveUpSo gl gs id old new (Some why) → ((id : ℕ) → failure_for reason id ≡ failure_of why id) → Did gl gs old (failure_for reason id ∷ []) new
  gave_up_for id old new why reason h is = subst (λ (e : InstanceEvent). Did gl gs old (e ∷ []) new) (sym (is id)) (gave_up id old new why h)

  own_took : {A : Type 0} (moment : Option ℕ) (held : Bool) (old new : Instance L S) (r : Result (Option (Vec (ℕ × Reply) A)) InstanceFault) → TookSo gl gs old new r → DoesOwn gl gs moment held old new
  own_took moment held old new (Ok None) h = own_nothing gl gs moment held old new h
  own_took moment held old new (Ok (Some told)) h = record {
    events = Gets h.0 ∷ map in_place told.items;
    did = h.1;
    allowed = All-cons (MayDo (retention_in old) moment held) (Gets h.0) (map in_place told.items) tt (told_may (retention_in old) moment held told.items);
  }
  own_took moment held old new (Err fault) h = own_failed gl gs moment held old new fault h

module _ {L I S : Type 0} (gl : logs.Ghosts L) (gs : spaces.Ghosts S) where
  did_same : (x x' : PoolInstance L I S) → instance_of x' ≡ instance_of x → Did gl gs (instance_of x) [] (instance_of x')
  did_same x x' h = subst (λ (i : Instance L S). Did gl gs (instance_of x) [] i) (sym h) (did_none gl gs (instance_of x))

  pub for_same : (x x' : PoolInstance L I S) → IsSame x x' → DoesFor gl gs [] x x'
  for_same x x' h = record { did = did_same x x' h.instance; left = h.outcomes }

  pub does_same : (may : InstanceEvent → Type 0) (x x' : PoolInstance L I S) → IsSame x x' → DoesBy gl gs may x x'
  does_same may x x' h = record {
    events = [];
    given = [];
    did = did_same x x' h.instance;
    left = h.outcomes ∙ sym (append-nil (outcomes_of x));
    allowed = All-nil may;
    are_given = given_none [];
  }

  pub does_none : (may : InstanceEvent → Type 0) (x : PoolInstance L I S) → DoesBy gl gs may x x
  does_none may x = does_same may x x (record { instance = refl; outcomes = refl })

  pub does_then : (may : InstanceEvent → Type 0) (x y z : PoolInstance L I S) → DoesBy gl gs may x y → DoesBy gl gs may y z → DoesBy gl gs may x z
  does_then may x y z p q = record {
    events = p.events ++ q.events;
    given = p.given ++ q.given;
    did = did_then gl gs (instance_of x) p.events (instance_of y) q.events (instance_of z) p.did q.did;
    left = q.left ∙ ap (λ (v : List (ℕ × Outcome)). v ++ q.given) p.left ∙ append_assoc (outcomes_of x) p.given q.given;
    allowed = All-append may p.events q.events p.allowed q.allowed;
    are_given = given_append (p.events ++ q.events) p.given q.given (are_given_left p.events q.events p.given p.are_given) (are_given_right p.events q.events q.given q.are_given);
  }

  pub does_weaker : (may other : InstanceEvent → Type 0) → ((e : InstanceEvent) → may e → other e) → (x x' : PoolInstance L I S) → DoesBy gl gs may x x' → DoesBy gl gs other x x'
  does_weaker may other weaker x x' h = record {
    events = h.events;
    given = h.given;
    did = h.did;
    left = h.left;
    allowed = All-weaker may other weaker h.events h.allowed;
    are_given = h.are_given;
  }

  -- ---- failures

  does_failing : (ticket : ℕ) (x z : PoolInstance L I S) (why : Unanswered) (reason : Unavailable) (given : List (ℕ × Outcome)) → Did gl gs (instance_of x) (failure_of why ticket ∷ []) (instance_of z)
      → outcomes_of z ≡ outcomes_of x ++ given → AreGivenIn (failure_of why ticket ∷ []) given → DoesBy gl gs IsFailure x z
  does_failing ticket x z why reason given did left are = record {
    events = failure_of why ticket ∷ [];
    given = given;
    did = did;
    left = left;
    allowed = All-cons IsFailure (failure_of why ticket) [] (failure_is why ticket) (All-nil IsFailure);
    are_given = are;
  }

  -- A request failed, and its outcome may be given.
  pub does_failed : (ticket : ℕ) (x z : PoolInstance L I S) (i : Instance L S) (why : Unanswered) (reason : Unavailable) → GaveUpSo gl gs ticket (instance_of x) i (Some why) → ((id : ℕ) → failure_for reason id ≡ failure_of why id)
      → instance_of z ≡ i → MayGive ticket (outcomes.Unavailable reason) (outcomes_of x) (outcomes_of z) → DoesBy gl gs IsFailure x z
  does_failed ticket x z i why reason h is same may =
      let did : Did gl gs (instance_of x) (failure_of why ticket ∷ []) (instance_of z) = subst (λ (v : Instance L S). Did gl gs (instance_of x) (failure_of why ticket ∷ []) v) (sym same) (gave_up gl gs ticket (instance_of x) i why h) in
      elim may [
        | inl none ↦ does_failing ticket x z why reason [] did (none ∙ sym (append-nil (outcomes_of x))) (given_none (failure_of why ticket ∷ []))
        | inr one ↦ does_failing ticket x z why reason ((ticket, outcomes.Unavailable reason) ∷ []) did one
            (given_one (failure_of why ticket ∷ []) ticket (outcomes.Unavailable reason)
            (contains_same (failure_of why ticket ∷ []) (failure_for reason ticket ∷ []) (failure_for reason ticket) (ap (λ (e : InstanceEvent). e ∷ []) (sym (is ticket))) (contains_head (failure_for reason ticket) [])))
      ]

  -- No such request waits.
  pub does_not_fail : (ticket : ℕ) (x z : PoolInstance L I S) → GaveUpSo gl gs ticket (instance_of x) (instance_of z) None → outcomes_of z ≡ outcomes_of x → DoesBy gl gs IsFailure x z
  does_not_fail ticket x z h left = record {
    events = [];
    given = [];
    did = h.0.did;
    left = left ∙ sym (append-nil (outcomes_of x));
    allowed = All-nil IsFailure;
    are_given = given_none [];
  }

  -- ---- advances

  pub does_own : (moment : Option ℕ) (held : Bool) (x x' : PoolInstance L I S) → DoesOwn gl gs moment held (instance_of x) (instance_of x') → outcomes_of x' ≡ outcomes_of x → DoesBy gl gs (MayDo (retention_of x) moment held) x x'
  does_own moment held x x' h left = record {
    events = h.events;
    given = [];
    did = h.did;
    left = left ∙ sym (append-nil (outcomes_of x));
    allowed = h.allowed;
    are_given = given_none h.events;
  }

  pub does_not_take : {A : Type 0} (moment : Option ℕ) (held : Bool) (x x' : PoolInstance L I S) (r : Result (Option (Vec (ℕ × Reply) A)) InstanceFault) → TookSo gl gs (instance_of x) (instance_of x') r → outcomes_of x' ≡ outcomes_of x
      → DoesBy gl gs (MayDo (retention_of x) moment held) x x'
  does_not_take moment held x x' r h left = does_own moment held x x' (own_took gl gs moment held (instance_of x) (instance_of x') r h) left

  -- An entry was taken, and the replies may be given.
  pub does_take : {A : Type 0} (moment : Option ℕ) (held : Bool) (x z : PoolInstance L I S) (i : Instance L S) (r : Result (Option (Vec (ℕ × Reply) A)) InstanceFault) (told : Vec (ℕ × Reply) A) → TookSo gl gs (instance_of x) i r → r ≡ Ok (Some told)
      → instance_of z ≡ i → GivesAmong told.items (outcomes_of x) (outcomes_of z) → DoesBy gl gs (MayDo (retention_of x) moment held) x z
  does_take {A} moment held x z i r told h is same among =
      let took : TookSo gl gs (instance_of x) i (Ok (Some told)) = subst (λ (v : Result (Option (Vec (ℕ × Reply) A)) InstanceFault). TookSo gl gs (instance_of x) i v) is h in
      record {
        events = Gets took.0 ∷ map in_place told.items;
        given = among.0;
        did = subst (λ (v : Instance L S). Did gl gs (instance_of x) (Gets took.0 ∷ map in_place told.items) v) (sym same) took.1;
        left = among.1;
        allowed = All-cons (MayDo (retention_of x) moment held) (Gets took.0) (map in_place told.items) tt (told_may (retention_of x) moment held told.items);
        are_given = are_given_right (Gets took.0 ∷ []) (map in_place told.items) among.0 among.2;
      }

  -- What follows an advance has the same retention.
  pub advance_then : (moment : Option ℕ) (held : Bool) (x y z : PoolInstance L I S) → DoesBy gl gs (MayDo (retention_of x) moment held) x y → DoesBy gl gs (MayDo (retention_of y) moment held) y z
      → DoesBy gl gs (MayDo (retention_of x) moment held) x z
  advance_then moment held x y z p q =
      does_then (MayDo (retention_of x) moment held) x y z p
      (does_weaker (MayDo (retention_of y) moment held) (MayDo (retention_of x) moment held) (λ e may. subst (λ (r : Option ℕ). MayDo r moment held e) p.did.retention may) y z q)

  pub advance_fails : (moment : Option ℕ) (held : Bool) (retention : Option ℕ) (x x' : PoolInstance L I S) → DoesBy gl gs IsFailure x x' → DoesBy gl gs (MayDo retention moment held) x x'
  advance_fails moment held retention x x' h = does_weaker IsFailure (MayDo retention moment held) (failure_may retention moment held) x x' h

  -- ---- answers

  -- A reading was answered.
  pub answers_some : (moment ticket : ℕ) (outcome : ReadingOutcome) (x z : PoolInstance L I S) → AnsweredAs gl gs moment ticket (instance_of x) (instance_of z) (Ok (Some outcome)) → outcomes_of z ≡ outcomes_of x
      → AnswersAs gl gs moment ticket (outcome_of outcome) x z
  answers_some moment ticket (Replied id reply) x z h left =
      inl (
        count_taken (instance_of x),
        h.1.0,
        record {
          did = subst (λ (v : ℕ). Did gl gs (instance_of x) (Answers v (AfterFirst (count_taken (instance_of x)) (moment, h.1.0)) reply ∷ []) (instance_of z)) h.0 h.1.1;
          left = left;
        },
      )
  answers_some moment ticket (Failed id) x z h left =
      inr (refl, record { did = subst (λ (v : ℕ). Did gl gs (instance_of x) (Drops v ∷ []) (instance_of z)) h.0 h.1.0; left = left })

  -- The request waits on.
  pub released : (moment ticket : ℕ) (x z : PoolInstance L I S) → AnsweredAs gl gs moment ticket (instance_of x) (instance_of z) (Ok None) → outcomes_of z ≡ outcomes_of x → DoesFor gl gs [] x z
  released moment ticket x z h left = elim h [
    | inl same ↦ record { did = subst (λ (i : Instance L S). Did gl gs (instance_of x) [] i) (sym same.0) (did_none gl gs (instance_of x)); left = left }
    | inr free ↦ record { did = free.did; left = left }
  ]

  -- The instance ended, and the request failed.
  pub answers_none : (ticket : ℕ) (reason : Unavailable) (x y z : PoolInstance L I S) → Did gl gs (instance_of x) [] (instance_of y) → outcomes_of y ≡ outcomes_of x → DoesFor gl gs (failure_for reason ticket ∷ []) y z
      → DoesFor gl gs (failure_for reason ticket ∷ []) x z
  answers_none ticket reason x y z did left h = record {
    did = did_then gl gs (instance_of x) [] (instance_of y) (failure_for reason ticket ∷ []) (instance_of z) did h.did;
    left = h.left ∙ left;
  }

  for_then : (events : List InstanceEvent) (x y z : PoolInstance L I S) → DoesFor gl gs events x y → instance_of z ≡ instance_of y → outcomes_of z ≡ outcomes_of y → DoesFor gl gs events x z
  for_then events x y z h same left = record {
    did = subst (λ (i : Instance L S). Did gl gs (instance_of x) events i) (sym same) h.did;
    left = left ∙ h.left;
  }

  pub answers_then : (moment ticket : ℕ) (outcome : Outcome) (x y z : PoolInstance L I S) → AnswersAs gl gs moment ticket outcome x y → instance_of z ≡ instance_of y → outcomes_of z ≡ outcomes_of y → AnswersAs gl gs moment ticket outcome x z
  answers_then moment ticket outcomes.Stands x y z h same left = absurd h
  answers_then moment ticket (outcomes.Replied reply) x y z h same left =
      elim h [
        | inl a ↦ inl (a.0, a.1, for_then (Answers ticket (AfterFirst a.0 (moment, a.1)) reply ∷ []) x y z a.2 same left)
        | inr b ↦ inr (b.0, for_then (Drops ticket ∷ []) x y z b.1 same left)
      ]
  answers_then moment ticket (outcomes.Unavailable reason) x y z h same left = for_then (failure_for reason ticket ∷ []) x y z h same left

  -- A request was forgotten.
  pub forgets : (ticket : ℕ) (r : Option Unanswered) (x z : PoolInstance L I S) → GaveUpSo gl gs ticket (instance_of x) (instance_of z) r → outcomes_of z ≡ outcomes_of x → ForgetsAs gl gs ticket x z
  forgets ticket None x z h left = record { events = []; failure = inl refl; does = record { did = h.0.did; left = left } }
  forgets ticket (Some unanswered.Unsent) x z h left = record { events = Drops ticket ∷ []; failure = inr (inl refl); does = record { did = h.0; left = left } }
  forgets ticket (Some unanswered.Unknown) x z h left = record { events = Fails ticket ∷ []; failure = inr (inr refl); does = record { did = h.0; left = left } }
