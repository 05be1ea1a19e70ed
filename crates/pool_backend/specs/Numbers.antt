-- No ticket is given twice, and the outcomes that can be given run out.
use Rattle.std.specs.Prelude.{◌≡◌, ◌⊎◌, ◌<◌, ℕ, Bool, List, [], ◌∷◌, All, Option, length}
use Rattle.std.proofs.Common.{ap, sym, arith, refl, inl, inr, le_of_eq, subst}
use Rattle.std.proofs.lemmas.List.Elements.{All-head, All-tail}
use Rattle.space_core.specs.declared.space.Space as spaces
use Rattle.wire_http.specs.declared.unavailable.Unavailable.{Unavailable}
use Rattle.wire_http.specs.declared.unavailable.Unavailable.TheVariants.{Unassigned, Unknown, Unreachable}
use Rattle.pool_core.specs.Events.{AfterFirst, Answers, AsksForEnd, Drops, Fails, Gets, InstanceEvent, LearnsEnd, Offers, Receives}
use Rattle.pool_core.specs.declared.log.Log as logs
use Rattle.pool_instance.specs.Does.{count_receipts, receipts_in}
use Rattle.server_backend.specs.BackendEvent.{Advances, Announces, Answers as AnswersLate, BackendEvent, Forgets, Gives, GivesNone, HasNumber, LeavesFewer, Receives as ReceivesRequest, Settles, Stops}
use Rattle.server_backend.specs.declared.outcome.Outcome.{Outcome}
use Rattle.server_backend.specs.declared.outcome.Outcome.TheVariants as outcomes
use Rattle.server_backend.specs.declared.outcome.Received.TheVariants as came
use Rattle.pool_backend.specs.Pool.{AnswersAs, DoesBy, DoesFor, IsFailure, MayDo, StepsAs, failure_for, instance_of, left_of, outcomes_of, retention_of, tickets_of}
use Rattle.pool_backend.specs.declared.pool.PoolInstance.{PoolInstance}
use Rattle.pool_instance.specs.Parts.{count_received}
use Rattle.pool_instance.specs.declared.instance.Instance.{Instance}

-- An event of an advance receives no request, nor does a failure.
may_no_receipt : (retention moment : Option ℕ) (held : Bool) (e : InstanceEvent)
    → MayDo retention moment held e → receipts_in e ≡ 0
may_no_receipt retention moment held (Receives id call) h = absurd h
may_no_receipt retention moment held (Offers ids bytes) h = refl
may_no_receipt retention moment held (Gets entry) h = refl
may_no_receipt retention moment held (AsksForEnd question) h = refl
may_no_receipt retention moment held (LearnsEnd question count) h = refl
may_no_receipt retention moment held (Answers id basis reply) h = refl
may_no_receipt retention moment held (Fails id) h = refl
may_no_receipt retention moment held (Drops id) h = refl

failure_no_receipt : (e : InstanceEvent) → IsFailure e → receipts_in e ≡ 0
failure_no_receipt (Receives id call) h = absurd h
failure_no_receipt (Offers ids bytes) h = refl
failure_no_receipt (Gets entry) h = refl
failure_no_receipt (AsksForEnd question) h = refl
failure_no_receipt (LearnsEnd question count) h = refl
failure_no_receipt (Answers id basis reply) h = refl
failure_no_receipt (Fails id) h = refl
failure_no_receipt (Drops id) h = refl

no_receipts : (may : InstanceEvent → Type 0) → ((e : InstanceEvent) → may e → receipts_in e ≡ 0)
    → (events : List InstanceEvent) → All may events → count_receipts events ≡ 0
no_receipts may none [] h = refl
no_receipts may none (e ∷ events) h = omega (
  arith,
  none e (All-head may e events h),
  no_receipts may none events (All-tail may e events h),
)

reason_no_receipt : (reason : Unavailable) (ticket : ℕ) → receipts_in (failure_for reason ticket) ≡ 0
reason_no_receipt Unreachable ticket = refl
reason_no_receipt Unassigned ticket = refl
reason_no_receipt Unknown ticket = refl

forgotten_none : (ticket : ℕ) (events : List InstanceEvent)
    → (events ≡ []) ⊎ ((events ≡ Drops ticket ∷ []) ⊎ (events ≡ Fails ticket ∷ []))
    → count_receipts events ≡ 0
forgotten_none ticket events h =
    let count : List InstanceEvent → ℕ = λ es. count_receipts es in
    elim h [
      | inl none ↦ ap count none
      | inr one ↦ elim one [ inl a ↦ ap count a | inr b ↦ ap count b ]
    ]

-- One outcome fewer is left.
one_less : (first : ℕ × Outcome) (all rest : List (ℕ × Outcome)) → all ≡ first ∷ rest
    → length rest < length all
one_less first all rest h =
    subst (λ (l : List (ℕ × Outcome)). length rest < length l) (sym h) (omega arith)

module _ {L I S : Type 0} (gl : logs.Ghosts L) (gs : spaces.Ghosts S) where
  -- An instance that did events without a receipt has the same next ticket.
  same_by : (x x' : PoolInstance L I S) (events : List InstanceEvent) → count_receipts events ≡ 0
      → DoesFor gl gs events x x' → tickets_of x' ≡ tickets_of x
  same_by x x' events none h = omega (arith, h.did.received, none)

  same_of : (x x' : PoolInstance L I S) → instance_of x' ≡ instance_of x
      → tickets_of x' ≡ tickets_of x
  same_of x x' h = ap (λ (i : Instance L S). count_received i) h

  same_doing : (may : InstanceEvent → Type 0)
      → ((e : InstanceEvent) → may e → receipts_in e ≡ 0) → (x x' : PoolInstance L I S)
      → DoesBy gl gs may x x' → tickets_of x' ≡ tickets_of x
  same_doing may none x x' h =
      omega (arith, h.did.received, no_receipts may none h.events h.allowed)

  same_answered : (moment ticket : ℕ) (outcome : Outcome) (x x' : PoolInstance L I S)
      → AnswersAs gl gs moment ticket outcome x x' → tickets_of x' ≡ tickets_of x
  same_answered moment ticket outcomes.Stands x x' h = absurd h
  same_answered moment ticket (outcomes.Replied reply) x x' h =
      elim h [
        | inl a ↦ same_by x x' (Answers ticket (AfterFirst a.0 (moment, a.1)) reply ∷ []) refl a.2
        | inr b ↦ same_by x x' (Drops ticket ∷ []) refl b.1
      ]
  same_answered moment ticket (outcomes.Unavailable reason) x x' h =
      let none = reason_no_receipt reason ticket in
      same_by x x' (failure_for reason ticket ∷ []) (omega (arith, none)) h

  pub steps_have_numbers : (old : PoolInstance L I S) (event : BackendEvent)
      (new : PoolInstance L I S) → StepsAs gl gs old event new
      → HasNumber (tickets_of old) event (tickets_of new)
  steps_have_numbers old (ReceivesRequest moment call (came.Answered reply)) new h =
      omega (arith, h.did.received)
  steps_have_numbers old (ReceivesRequest moment call (came.Drafted ticket reply)) new h = absurd h
  steps_have_numbers old (ReceivesRequest moment call (came.Waits ticket)) new h =
      let number = h.0 in
      (le_of_eq (sym number), omega (arith, number, h.1.did.received))
  steps_have_numbers old (ReceivesRequest moment call (came.Refused reason)) new h =
      omega (arith, h.did.received)
  steps_have_numbers old Settles new h = ap (λ (x : PoolInstance L I S). tickets_of x) h
  steps_have_numbers old (Advances moment held now) new h =
      same_doing (MayDo (retention_of old) moment held)
      (may_no_receipt (retention_of old) moment held) old new h
  steps_have_numbers old (Gives ticket outcome) new h = same_of old new h.0
  steps_have_numbers old GivesNone new h = same_of old new h.1.instance
  steps_have_numbers old (Announces ticket) new h = same_by old new [] refl h.0
  steps_have_numbers old (AnswersLate moment ticket outcome) new h =
      same_answered moment ticket outcome old new h
  steps_have_numbers old (Forgets ticket) new h =
      same_by old new h.events (forgotten_none ticket h.events h.failure) h.does
  steps_have_numbers old Stops new h = same_doing IsFailure failure_no_receipt old new h

  pub steps_leave_fewer : (old : PoolInstance L I S) (event : BackendEvent)
      (new : PoolInstance L I S) → StepsAs gl gs old event new
      → LeavesFewer (left_of old) event (left_of new)
  steps_leave_fewer old (ReceivesRequest moment call received) new h = tt
  steps_leave_fewer old Settles new h = tt
  steps_leave_fewer old (Advances moment held now) new h = tt
  steps_leave_fewer old (Gives ticket outcome) new h =
      one_less (ticket, outcome) (outcomes_of old) (outcomes_of new) h.1
  steps_leave_fewer old GivesNone new h = tt
  steps_leave_fewer old (Announces ticket) new h = tt
  steps_leave_fewer old (AnswersLate moment ticket outcome) new h = tt
  steps_leave_fewer old (Forgets ticket) new h = tt
  steps_leave_fewer old Stops new h = tt
