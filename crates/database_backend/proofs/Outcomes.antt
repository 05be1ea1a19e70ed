-- The outcomes that a database gives under its tickets.
use Rattle.std.proofs.Common.{◌≡◌, ◌∙◌, ◌<◌, ◌≤◌, ◌==◌, ◌&&◌, leb, ℕ, suc, Bool, true, false, List, [], ◌∷◌, Option, Some, Result, Ok, Err, IfSome, is_some, if◌then◌else◌, refl, sym, ap, subst, arith, le_refl, le_trans, false-eqb, leb-true, true≢false, le_of_eq, eq-or-lt_of_le, inl, inr}
use Rattle.policy_core.specs.declared.call.Call.{Call}
use Rattle.service_calls.specs.Batches.{delivered_reply}
use Rattle.service_calls.specs.Service.{reply_of}
use Rattle.service_step.specs.declared.call_fault.CallFault.TheVariants as halts
use Rattle.service_step.specs.declared.reply.Reply.{Reply}
use Rattle.space_core.specs.declared.group_commit.GroupCommit as commits
use Rattle.space_core.specs.declared.space.Space as spaces
use Rattle.space_core.specs.declared.space.SpaceFault.{SpaceFault}
use Rattle.server_backend.specs.BackendEvent.{Advances, Announces, Answers, BackendEvent, Forgets, Gives, GivesNone, HasNumber, Receives, Settles, Stops}
use Rattle.server_backend.specs.Does.{DoesAll}
use Rattle.server_backend.specs.Told.{reply_by, reply_under}
use Rattle.server_backend.specs.declared.outcome.Outcome.{Outcome}
use Rattle.server_backend.specs.declared.outcome.Received.TheVariants as came
use Rattle.database_backend.specs.Database.{SettlesAs, StepsAs, is_commit_due, is_open_in, outcome_for, outcome_of, settled_of, tickets_of, told_of}
use Rattle.database_backend.specs.Numbers.{steps_have_numbers}
use Rattle.database_backend.specs.declared.database.Database.{Database}

-- ---- replies

-- The delivered reply of a draft, given the outcome of its commit.
abbrev pub kept : Result (Unit {0}) SpaceFault → Reply → Reply
kept (Ok x) draft = draft
kept (Err fault) draft = reply_of (halts.Space fault)

pub kept_is_delivered : (outcome : Result (Unit {0}) SpaceFault) (moment : ℕ) (call : Call) (draft : Reply)
    → kept outcome draft ≡ delivered_reply outcome (record { timed = (moment, call); reply = draft; waits = true })
kept_is_delivered (Ok x) moment call draft = refl
kept_is_delivered (Err fault) moment call draft = refl

pub made_is_delivered : (outcome : Result (Unit {0}) SpaceFault) (moment : ℕ) (call : Call) (reply : Reply)
    → reply ≡ delivered_reply outcome (record { timed = (moment, call); reply = reply; waits = false })
made_is_delivered (Ok x) moment call reply = refl
made_is_delivered (Err fault) moment call reply = refl

given_is_kept : (outcome : Result (Unit {0}) SpaceFault) (draft : Reply) → reply_by (Some draft) (outcome_for outcome) ≡ Some (kept outcome draft)
given_is_kept (Ok x) draft = refl
given_is_kept (Err fault) draft = refl

-- ---- a commit that is due

pub due_open : (opened : Bool) (settled told : ℕ) → (opened && leb settled told) ≡ true → (opened ≡ true) × (settled ≤ told)
due_open true settled told h = (refl, leb-true settled told h)
due_open false settled told h = absurd cc

-- ---- numbers

-- A ticket that is not the next one to be given is given later.
above_told : {told number ticket : ℕ} → number ≡ told → told ≤ ticket → (ticket ≡ number → ⊥) → told < ticket
above_told {told} {number} {ticket} is low apart =
    elim (eq-or-lt_of_le low) [
      | inl same ↦ absurd (apart (sym same ∙ sym is))
      | inr less ↦ less
    ]

pub grows : (n : ℕ) (event : BackendEvent) (n' : ℕ) → HasNumber n event n' → n ≤ n'
grows n (Receives moment call (came.Answered reply)) n' h = h
grows n (Receives moment call (came.Drafted ticket reply)) n' h =
    let low : n ≤ ticket = h.0 in
    let is : n' ≡ suc ticket = h.1 in
    omega arith
grows n (Receives moment call (came.Waits ticket)) n' h =
    let low : n ≤ ticket = h.0 in
    let is : n' ≡ suc ticket = h.1 in
    omega arith
grows n (Receives moment call (came.Refused reason)) n' h = h
grows n Settles n' h = le_of_eq (sym h)
grows n (Advances moment held now) n' h = le_of_eq (sym h)
grows n (Gives ticket outcome) n' h = le_of_eq (sym h)
grows n GivesNone n' h = le_of_eq (sym h)
grows n (Announces ticket) n' h = le_of_eq (sym h)
grows n (Answers moment ticket outcome) n' h = le_of_eq (sym h)
grows n (Forgets ticket) n' h = le_of_eq (sym h)
grows n Stops n' h = le_of_eq (sym h)

-- What is always true of the numbers of a database.
pub record InOrder {S : Type 0} (d : Database S) : Type 0 where
  pub told : told_of d ≤ settled_of d
  pub settled : settled_of d ≤ tickets_of d
  pub closed : is_open_in d ≡ false → settled_of d ≡ tickets_of d

-- Holds if two databases have the same drafts.
record SameDrafts {S : Type 0} (d d' : Database S) : Type 0 where
  pub settled : settled_of d' ≡ settled_of d
  pub told : told_of d' ≡ told_of d
  pub outcome : outcome_of d' ≡ outcome_of d

module _ {S : Type 0} where
  same_drafts : (d d' : Database S) → d' ≡ d → SameDrafts d d'
  same_drafts d d' same = record {
    settled = ap (λ (x : Database S). settled_of x) same;
    told = ap (λ (x : Database S). told_of x) same;
    outcome = ap (λ (x : Database S). outcome_of x) same;
  }

module _ {S : Type 0} (g : spaces.Ghosts S) (k : commits.Ghosts S) where
  pub all_grow : (events : List BackendEvent) (d new : Database S) → DoesAll (StepsAs g k) events d new → tickets_of d ≤ tickets_of new
  all_grow [] d new h = le_of_eq (sym (ap (λ (x : Database S). tickets_of x) h))
  all_grow (event ∷ events) d new h =
      le_trans (grows (tickets_of d) event (tickets_of h.0) (steps_have_numbers g k d event h.0 h.1)) (all_grow events h.0 new h.2)

  -- ---- the order of numbers

  order_of_same : (d d' : Database S) → d' ≡ d → InOrder d → InOrder d'
  order_of_same d d' same o = subst (λ (x : Database S). InOrder x) (sym same) o

  order_settled : (due : Bool) (d d' : Database S) → SettlesAs g k due d d' → InOrder d → InOrder d'
  order_settled false d d' h o = order_of_same d d' h o
  order_settled true d d' h o =
      let low = o.told in
      let high = o.settled in
      let told = ap (λ (x : Database S). told_of x) h.same in
      let settled = ap (λ (x : Database S). settled_of x) h.same in
      let tickets = ap (λ (x : Database S). tickets_of x) h.same in
      record {
        told = subst (λ (n : ℕ). n ≤ settled_of d') (sym told) (subst (λ (n : ℕ). told_of d ≤ n) (sym settled) (le_trans low high));
        settled = subst (λ (n : ℕ). n ≤ tickets_of d') (sym settled) (subst (λ (n : ℕ). tickets_of d ≤ n) (sym tickets) (le_refl (tickets_of d)));
        closed = λ h'. settled ∙ sym tickets;
      }

  -- A call keeps the order, if it takes one ticket or none.
  order_called : (d d' : Database S) → told_of d' ≡ told_of d → settled_of d' ≡ settled_of d → tickets_of d ≤ tickets_of d' → is_open_in d' ≡ true → InOrder d → InOrder d'
  order_called d d' told settled more opened o = record {
    told = subst (λ (n : ℕ). n ≤ settled_of d') (sym told) (subst (λ (n : ℕ). told_of d ≤ n) (sym settled) o.told);
    settled = subst (λ (n : ℕ). n ≤ tickets_of d') (sym settled) (le_trans o.settled more);
    closed = λ shut. absurd (true≢false (sym opened ∙ shut));
  }

  pub order_kept : (event : BackendEvent) (d d' : Database S) → StepsAs g k d event d' → InOrder d → InOrder d'
  order_kept (Receives moment call (came.Answered reply)) d d' h o =
      let tickets : tickets_of d' ≡ tickets_of d = ap (λ (x : Database S). tickets_of x) h.same in
      order_called d d' (ap (λ (x : Database S). told_of x) h.same) (ap (λ (x : Database S). settled_of x) h.same) (le_of_eq (sym tickets))
      (ap (λ (x : Database S). is_open_in x) h.same) o
  order_kept (Receives moment call (came.Drafted ticket reply)) d d' h o =
      let same = h.1.same in
      let tickets : tickets_of d' ≡ suc (tickets_of d) = ap (λ (x : Database S). tickets_of x) same in
      order_called d d' (ap (λ (x : Database S). told_of x) same) (ap (λ (x : Database S). settled_of x) same) (omega arith)
      (ap (λ (x : Database S). is_open_in x) same) o
  order_kept (Receives moment call (came.Waits ticket)) d d' h o = absurd h
  order_kept (Receives moment call (came.Refused reason)) d d' h o = absurd h
  order_kept Settles d d' h o = order_settled (is_commit_due d) d d' h o
  order_kept (Advances moment held now) d d' h o =
      let same = h.0 in
      record {
        told = subst (λ (n : ℕ). n ≤ settled_of d') (sym same.told) (subst (λ (n : ℕ). told_of d ≤ n) (sym same.settled) o.told);
        settled = subst (λ (n : ℕ). n ≤ tickets_of d') (sym same.settled) (subst (λ (n : ℕ). settled_of d ≤ n) (sym same.tickets) o.settled);
        closed = λ shut. same.settled ∙ o.closed (sym same.opened ∙ shut) ∙ sym same.tickets;
      }
  order_kept (Gives ticket outcome) d d' h o =
      let less : told_of d < settled_of d = h.0 in
      let more : suc (told_of d) ≤ settled_of d = omega arith in
      subst (λ (x : Database S). InOrder x) (sym h.3) (record { told = more; settled = o.settled; closed = o.closed })
  order_kept GivesNone d d' h o = order_of_same d d' h.1 o
  order_kept (Announces ticket) d d' h o = order_of_same d d' h.1 o
  order_kept (Answers moment ticket outcome) d d' h o = absurd h
  order_kept (Forgets ticket) d d' h o = order_of_same d d' h o
  order_kept Stops d d' h o = order_of_same d d' h o

  -- ---- a ticket that was settled

  -- Nothing is committed while a ticket waits for its outcome to be given.
  settled_same : (opened : Bool) (ticket : ℕ) (d d' : Database S) → told_of d ≤ ticket → ticket < settled_of d
      → (due : Bool) → (opened && leb (settled_of d) (told_of d)) ≡ due → SettlesAs g k due d d' → d' ≡ d
  settled_same opened ticket d d' low high false e h = h
  settled_same opened ticket d d' low high true e h =
      let over : settled_of d ≤ told_of d = (due_open opened (settled_of d) (told_of d) e).1 in
      absurd (omega arith)

  -- The same after an event that changes no draft.
  same_given : (d mid : Database S) (ticket : ℕ) (draft : Reply) (told : Option Reply) → SameDrafts d mid
      → (told_of mid ≤ ticket → ticket < settled_of mid → IfSome told (λ it. it ≡ kept (outcome_of mid) draft))
      → told_of d ≤ ticket → ticket < settled_of d → IfSome told (λ it. it ≡ kept (outcome_of d) draft)
  same_given d mid ticket draft told same later low high =
      subst (λ (v : Result (Unit {0}) SpaceFault). IfSome told (λ it. it ≡ kept v draft)) same.outcome
      (later (subst (λ (n : ℕ). n ≤ ticket) (sym same.told) low) (subst (λ (n : ℕ). ticket < n) (sym same.settled) high))

  -- The same if an outcome was given.
  gives_given : (d : Database S) (ticket other : ℕ) (draft : Reply) (outcome : Outcome) (later : Option Reply) → outcome ≡ outcome_for (outcome_of d)
      → ((ticket ≡ other → ⊥) → IfSome later (λ it. it ≡ kept (outcome_of d) draft))
      → (same : Bool) → (ticket == other) ≡ same → IfSome (if same then reply_by (Some draft) outcome else later) (λ it. it ≡ kept (outcome_of d) draft)
  gives_given d ticket other draft outcome later is rest true e =
      let reply = ap (λ (v : Outcome). reply_by (Some draft) v) is ∙ given_is_kept (outcome_of d) draft in
      subst (λ (v : Option Reply). IfSome v (λ it. it ≡ kept (outcome_of d) draft)) (sym reply) refl
  gives_given d ticket other draft outcome later is rest false e = rest (false-eqb ticket other (sym e))

  -- The outcome of a settled ticket is that of the last commit, whenever it is given.
  pub given : (events : List BackendEvent) (d new : Database S) (ticket : ℕ) (draft : Reply) → DoesAll (StepsAs g k) events d new
      → told_of d ≤ ticket → ticket < settled_of d → IfSome (reply_under ticket (Some draft) events) (λ it. it ≡ kept (outcome_of d) draft)
  given [] d new ticket draft h low high = tt
  given (Receives moment call (came.Answered reply) ∷ events) d new ticket draft h low high =
      let same = h.1.same in
      same_given d h.0 ticket draft (reply_under ticket (Some draft) events) (record {
        settled = ap (λ (x : Database S). settled_of x) same;
        told = ap (λ (x : Database S). told_of x) same;
        outcome = ap (λ (x : Database S). outcome_of x) same;
      }) (given events h.0 new ticket draft h.2) low high
  given (Receives moment call (came.Drafted number reply) ∷ events) d new ticket draft h low high =
      let same = h.1.1.same in
      same_given d h.0 ticket draft (reply_under ticket (Some draft) events) (record {
        settled = ap (λ (x : Database S). settled_of x) same;
        told = ap (λ (x : Database S). told_of x) same;
        outcome = ap (λ (x : Database S). outcome_of x) same;
      }) (given events h.0 new ticket draft h.2) low high
  given (Receives moment call (came.Waits number) ∷ events) d new ticket draft h low high = absurd h.1
  given (Receives moment call (came.Refused reason) ∷ events) d new ticket draft h low high = absurd h.1
  given (Settles ∷ events) d new ticket draft h low high =
      let same = settled_same (is_open_in d) ticket d h.0 low high (is_commit_due d) refl h.1 in
      same_given d h.0 ticket draft (reply_under ticket (Some draft) events) (same_drafts d h.0 same) (given events h.0 new ticket draft h.2) low high
  given (Advances moment held now ∷ events) d new ticket draft h low high =
      let same = h.1.0 in
      same_given d h.0 ticket draft (reply_under ticket (Some draft) events) (record { settled = same.settled; told = same.told; outcome = same.outcome })
      (given events h.0 new ticket draft h.2) low high
  given (Gives number outcome ∷ events) d new ticket draft h low high =
      let at = h.1.3 in
      let told : told_of h.0 ≡ suc (told_of d) = ap (λ (x : Database S). told_of x) at in
      let settled : settled_of h.0 ≡ settled_of d = ap (λ (x : Database S). settled_of x) at in
      let number_is : number ≡ told_of d = h.1.1 in
      gives_given d ticket number draft outcome (reply_under ticket (Some draft) events) h.1.2
      (λ other.
      let above : told_of d < ticket = above_told number_is low other in
      let less : told_of h.0 ≤ ticket = omega arith in
      subst (λ (v : Result (Unit {0}) SpaceFault). IfSome (reply_under ticket (Some draft) events) (λ it. it ≡ kept v draft)) (ap (λ (x : Database S). outcome_of x) at)
      (given events h.0 new ticket draft h.2 less (subst (λ (n : ℕ). ticket < n) (sym settled) high)))
      (ticket == number) refl
  given (GivesNone ∷ events) d new ticket draft h low high =
      same_given d h.0 ticket draft (reply_under ticket (Some draft) events) (same_drafts d h.0 h.1.1) (given events h.0 new ticket draft h.2) low high
  given (Announces number ∷ events) d new ticket draft h low high =
      same_given d h.0 ticket draft (reply_under ticket (Some draft) events) (same_drafts d h.0 h.1.1) (given events h.0 new ticket draft h.2) low high
  given (Answers moment number outcome ∷ events) d new ticket draft h low high = absurd h.1
  given (Forgets number ∷ events) d new ticket draft h low high =
      same_given d h.0 ticket draft (reply_under ticket (Some draft) events) (same_drafts d h.0 h.1) (given events h.0 new ticket draft h.2) low high
  given (Stops ∷ events) d new ticket draft h low high =
      same_given d h.0 ticket draft (reply_under ticket (Some draft) events) (same_drafts d h.0 h.1) (given events h.0 new ticket draft h.2) low high

  -- ---- a ticket whose outcome was given

  settled_told : (due : Bool) (d d' : Database S) → SettlesAs g k due d d' → told_of d' ≡ told_of d
  settled_told false d d' h = ap (λ (x : Database S). told_of x) h
  settled_told true d d' h = ap (λ (x : Database S). told_of x) h.same

  gives_some : (d : Database S) (ticket other : ℕ) (draft : Reply) (outcome : Outcome) (later : Option Reply) → outcome ≡ outcome_for (outcome_of d)
      → ((ticket ≡ other → ⊥) → is_some later ≡ true) → (same : Bool) → (ticket == other) ≡ same
      → is_some (if same then reply_by (Some draft) outcome else later) ≡ true
  gives_some d ticket other draft outcome later is rest true e =
      ap (λ (v : Option Reply). is_some v) (ap (λ (v : Outcome). reply_by (Some draft) v) is ∙ given_is_kept (outcome_of d) draft)
  gives_some d ticket other draft outcome later is rest false e = rest (false-eqb ticket other (sym e))

  -- A ticket whose outcome was given has a reply.
  pub told_some : (events : List BackendEvent) (d new : Database S) (ticket : ℕ) (draft : Reply) → DoesAll (StepsAs g k) events d new
      → told_of d ≤ ticket → ticket < told_of new → is_some (reply_under ticket (Some draft) events) ≡ true
  told_some [] d new ticket draft h low high =
      let same : told_of new ≡ told_of d = ap (λ (x : Database S). told_of x) h in
      absurd (omega arith)
  told_some (Receives moment call (came.Answered reply) ∷ events) d new ticket draft h low high =
      let same : told_of h.0 ≡ told_of d = ap (λ (x : Database S). told_of x) h.1.same in
      told_some events h.0 new ticket draft h.2 (omega arith) high
  told_some (Receives moment call (came.Drafted number reply) ∷ events) d new ticket draft h low high =
      let same : told_of h.0 ≡ told_of d = ap (λ (x : Database S). told_of x) h.1.1.same in
      told_some events h.0 new ticket draft h.2 (omega arith) high
  told_some (Receives moment call (came.Waits number) ∷ events) d new ticket draft h low high = absurd h.1
  told_some (Receives moment call (came.Refused reason) ∷ events) d new ticket draft h low high = absurd h.1
  told_some (Settles ∷ events) d new ticket draft h low high =
      let same : told_of h.0 ≡ told_of d = settled_told (is_commit_due d) d h.0 h.1 in
      told_some events h.0 new ticket draft h.2 (omega arith) high
  told_some (Advances moment held now ∷ events) d new ticket draft h low high =
      let same : told_of h.0 ≡ told_of d = h.1.0.told in
      told_some events h.0 new ticket draft h.2 (omega arith) high
  told_some (Gives number outcome ∷ events) d new ticket draft h low high =
      let told : told_of h.0 ≡ suc (told_of d) = ap (λ (x : Database S). told_of x) h.1.3 in
      let number_is : number ≡ told_of d = h.1.1 in
      gives_some d ticket number draft outcome (reply_under ticket (Some draft) events) h.1.2
      (λ other.
      let above : told_of d < ticket = above_told number_is low other in
      told_some events h.0 new ticket draft h.2 (omega arith) high)
      (ticket == number) refl
  told_some (GivesNone ∷ events) d new ticket draft h low high =
      let same : told_of h.0 ≡ told_of d = ap (λ (x : Database S). told_of x) h.1.1 in
      told_some events h.0 new ticket draft h.2 (omega arith) high
  told_some (Announces number ∷ events) d new ticket draft h low high =
      let same : told_of h.0 ≡ told_of d = ap (λ (x : Database S). told_of x) h.1.1 in
      told_some events h.0 new ticket draft h.2 (omega arith) high
  told_some (Answers moment number outcome ∷ events) d new ticket draft h low high = absurd h.1
  told_some (Forgets number ∷ events) d new ticket draft h low high =
      let same : told_of h.0 ≡ told_of d = ap (λ (x : Database S). told_of x) h.1 in
      told_some events h.0 new ticket draft h.2 (omega arith) high
  told_some (Stops ∷ events) d new ticket draft h low high =
      let same : told_of h.0 ≡ told_of d = ap (λ (x : Database S). told_of x) h.1 in
      told_some events h.0 new ticket draft h.2 (omega arith) high
