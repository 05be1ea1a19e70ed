-- Each event of a database gives the tickets that it should.
use Rattle.std.specs.Prelude.{◌≡◌, ◌<◌, ◌-◌, ℕ, suc, Bool, true, false}
use Rattle.std.proofs.Common.{◌∙◌, ap, arith, le_of_eq, subst, sym}
use Rattle.space_core.specs.declared.group_commit.GroupCommit as commits
use Rattle.space_core.specs.declared.space.Space as spaces
use Rattle.server_backend.specs.BackendEvent.{Advances, Announces, Answers, BackendEvent, Forgets, Gives, GivesNone, HasNumber, LeavesFewer, Receives, Settles, Stops}
use Rattle.server_backend.specs.declared.outcome.Received.TheVariants as came
use Rattle.database_backend.specs.Database.{SettlesAs, StepsAs, is_commit_due, left_of, settled_of, tickets_of, told_of}
use Rattle.database_backend.specs.declared.database.Database.{Database}

module _ {S : Type 0} (g : spaces.Ghosts S) (k : commits.Ghosts S) where
  -- The tickets of an equal database, and of one that was settled.
  same_tickets : (d d' : Database S) → d' ≡ d → tickets_of d' ≡ tickets_of d
  same_tickets d d' same = ap (λ (x : Database S). tickets_of x) same

  settled_tickets : (due : Bool) (d d' : Database S) → SettlesAs g k due d d'
      → tickets_of d' ≡ tickets_of d
  settled_tickets true d d' h = ap (λ (x : Database S). tickets_of x) h.same
  settled_tickets false d d' h = same_tickets d d' h

  pub steps_have_numbers : (old : Database S) (event : BackendEvent) (new : Database S)
      → StepsAs g k old event new → HasNumber (tickets_of old) event (tickets_of new)
  steps_have_numbers old (Receives moment call (came.Answered reply)) new h =
      le_of_eq (sym (ap (λ (x : Database S). tickets_of x) h.same))
  steps_have_numbers old (Receives moment call (came.Drafted ticket reply)) new h = (
    le_of_eq (sym h.0),
    ap (λ (x : Database S). tickets_of x) h.1.same ∙ ap (λ (n : ℕ). suc n) (sym h.0),
  )
  steps_have_numbers old (Receives moment call (came.Waits ticket)) new h = elim h [ ]
  steps_have_numbers old (Receives moment call (came.Refused reason)) new h = elim h [ ]
  steps_have_numbers old Settles new h = settled_tickets (is_commit_due old) old new h
  steps_have_numbers old (Advances moment held now) new h = h.0.tickets
  steps_have_numbers old (Gives ticket outcome) new h = ap (λ (x : Database S). tickets_of x) h.3
  steps_have_numbers old GivesNone new h = same_tickets old new h.1
  steps_have_numbers old (Announces ticket) new h = same_tickets old new h.1
  steps_have_numbers old (Answers moment ticket outcome) new h = elim h [ ]
  steps_have_numbers old (Forgets ticket) new h = same_tickets old new h
  steps_have_numbers old Stops new h = same_tickets old new h

  -- One ticket fewer is left.
  one_less : (settled told : ℕ) → told < settled → settled - suc told < settled - told
  one_less settled told less = omega (arith, less)

  pub steps_leave_fewer : (old : Database S) (event : BackendEvent) (new : Database S)
      → StepsAs g k old event new → LeavesFewer (left_of old) event (left_of new)
  steps_leave_fewer old (Receives moment call received) new h = tt
  steps_leave_fewer old Settles new h = tt
  steps_leave_fewer old (Advances moment held now) new h = tt
  steps_leave_fewer old (Gives ticket outcome) new h =
      subst (λ (x : Database S). left_of x < left_of old) (sym h.3)
      (one_less (settled_of old) (told_of old) h.0)
  steps_leave_fewer old GivesNone new h = tt
  steps_leave_fewer old (Announces ticket) new h = tt
  steps_leave_fewer old (Answers moment ticket outcome) new h = tt
  steps_leave_fewer old (Forgets ticket) new h = tt
  steps_leave_fewer old Stops new h = tt
