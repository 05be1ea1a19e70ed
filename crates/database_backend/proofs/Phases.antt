-- The phases of a database.
use Rattle.std.proofs.Common.{◌≡◌, ◌∙◌, ◌<◌, ◌≤◌, ◌&&◌, leb, ℕ, Bool, true, false, List, [], ◌∷◌, refl, sym, ap, subst, arith, le_of_eq, le-leb, le_antisymm, true≢false}
use Rattle.space_core.specs.declared.group_commit.GroupCommit as commits
use Rattle.space_core.specs.declared.space.Space as spaces
use Rattle.server_backend.specs.BackendEvent.{Advances, Announces, Answers, BackendEvent, Forgets, Gives, GivesNone, Receives, Settles, Stops}
use Rattle.server_backend.specs.Does.{DoesAll}
use Rattle.server_backend.specs.Phase.{Ended, Mixed, Phase, Quiet, Running, after_giving, after_request, after_settling, phase_after, phase_at_end}
use Rattle.server_backend.specs.declared.outcome.Received.TheVariants as came
use Rattle.database_backend.specs.Database.{SettlesAs, StepsAs, is_commit_due, is_open_in, settled_of, told_of}
use Rattle.database_backend.specs.Delivered.{RoundsAreTold}
use Rattle.database_backend.specs.declared.database.Database.{Database}
use Rattle.database_backend.proofs.Outcomes.{InOrder, order_kept}

-- What is known of a database in a phase.
abbrev IsIn : {S : Type 0} → Phase → Database S → Type 0
IsIn Quiet d = (is_open_in d ≡ false) × (told_of d ≡ settled_of d)
IsIn Running d = told_of d ≡ settled_of d
IsIn Ended d = is_open_in d ≡ false
IsIn Mixed d = Unit {0}

not_due : (opened : Bool) (settled told : ℕ) → opened ≡ false → (opened && leb settled told) ≡ false
not_due opened settled told is = ap (λ (b : Bool). b && leb settled told) is

module _ {S : Type 0} (g : spaces.Ghosts S) (k : commits.Ghosts S) where
  -- Equal flags and numbers of tickets.
  in_same : (phase : Phase) (d d' : Database S) → is_open_in d' ≡ is_open_in d → told_of d' ≡ told_of d → settled_of d' ≡ settled_of d → IsIn phase d → IsIn phase d'
  in_same Quiet d d' opened told settled h = (opened ∙ h.0, told ∙ h.1 ∙ sym settled)
  in_same Running d d' opened told settled h = told ∙ h ∙ sym settled
  in_same Ended d d' opened told settled h = opened ∙ h
  in_same Mixed d d' opened told settled h = tt

  in_equal : (phase : Phase) (d d' : Database S) → d' ≡ d → IsIn phase d → IsIn phase d'
  in_equal phase d d' same h = subst (λ (x : Database S). IsIn phase x) (sym same) h

  in_called : (phase : Phase) (d d' : Database S) → told_of d' ≡ told_of d → settled_of d' ≡ settled_of d → IsIn phase d → IsIn (after_request phase) d'
  in_called Quiet d d' told settled h = told ∙ h.1 ∙ sym settled
  in_called Running d d' told settled h = told ∙ h ∙ sym settled
  in_called Ended d d' told settled h = tt
  in_called Mixed d d' told settled h = tt

  -- A database that is not open has nothing to commit.
  settles_shut : (due : Bool) (d d' : Database S) → is_commit_due d ≡ due → is_open_in d ≡ false → SettlesAs g k due d d' → d' ≡ d
  settles_shut false d d' e shut h = h
  settles_shut true d d' e shut h = absurd (true≢false (sym e ∙ not_due (is_open_in d) (settled_of d) (told_of d) shut))

  -- Afterwards it is not open, if all outcomes had been given.
  settles_running : (due : Bool) (opened : Bool) (d d' : Database S) → is_commit_due d ≡ due → is_open_in d ≡ opened → settled_of d ≤ told_of d → SettlesAs g k due d d' → is_open_in d' ≡ false
  settles_running true opened d d' e is all h = ap (λ (x : Database S). is_open_in x) h.same
  settles_running false false d d' e is all h = ap (λ (x : Database S). is_open_in x) h ∙ is
  settles_running false true d d' e is all h =
      let due : is_commit_due d ≡ true = ap (λ (b : Bool). b && leb (settled_of d) (told_of d)) is ∙ le-leb (settled_of d) (told_of d) all in
      absurd (true≢false (sym due ∙ e))

  in_settled : (phase : Phase) (d d' : Database S) → SettlesAs g k (is_commit_due d) d d' → IsIn phase d → IsIn (after_settling phase) d'
  in_settled Quiet d d' s h = in_equal Quiet d d' (settles_shut (is_commit_due d) d d' refl h.0 s) h
  in_settled Running d d' s h = settles_running (is_commit_due d) (is_open_in d) d d' refl refl (le_of_eq (sym h)) s
  in_settled Ended d d' s h = in_equal Ended d d' (settles_shut (is_commit_due d) d d' refl h s) h
  in_settled Mixed d d' s h = tt

  in_gives_none : (phase : Phase) (d d' : Database S) → InOrder d → settled_of d ≤ told_of d → d' ≡ d → IsIn phase d → IsIn (after_giving phase) d'
  in_gives_none Quiet d d' o all same h = in_equal Quiet d d' same h
  in_gives_none Running d d' o all same h = in_equal Running d d' same h
  in_gives_none Ended d d' o all same h = in_equal Quiet d d' same (h, le_antisymm o.told all)
  in_gives_none Mixed d d' o all same h = in_equal Running d d' same (le_antisymm o.told all)

  in_gives : (phase : Phase) (d d' : Database S) → told_of d < settled_of d → is_open_in d' ≡ is_open_in d → IsIn phase d → IsIn phase d'
  in_gives Quiet d d' less opened h = let same : told_of d ≡ settled_of d = h.1 in absurd (omega arith)
  in_gives Running d d' less opened h = let same : told_of d ≡ settled_of d = h in absurd (omega arith)
  in_gives Ended d d' less opened h = opened ∙ h
  in_gives Mixed d d' less opened h = tt

  in_next : (event : BackendEvent) (phase : Phase) (d d' : Database S) → StepsAs g k d event d' → InOrder d → IsIn phase d → IsIn (phase_after event phase) d'
  in_next (Receives moment call (came.Answered reply)) phase d d' s o h =
      in_called phase d d' (ap (λ (x : Database S). told_of x) s.same) (ap (λ (x : Database S). settled_of x) s.same) h
  in_next (Receives moment call (came.Drafted ticket reply)) phase d d' s o h =
      in_called phase d d' (ap (λ (x : Database S). told_of x) s.1.same) (ap (λ (x : Database S). settled_of x) s.1.same) h
  in_next (Receives moment call (came.Waits ticket)) phase d d' s o h = absurd s
  in_next (Receives moment call (came.Refused reason)) phase d d' s o h = absurd s
  in_next Settles phase d d' s o h = in_settled phase d d' s h
  in_next (Advances moment held now) phase d d' s o h = in_same phase d d' s.0.opened s.0.told s.0.settled h
  in_next (Gives ticket outcome) phase d d' s o h = in_gives phase d d' s.0 (ap (λ (x : Database S). is_open_in x) s.3) h
  in_next GivesNone phase d d' s o h = in_gives_none phase d d' o s.0 s.1 h
  in_next (Announces ticket) phase d d' s o h = in_equal phase d d' s.1 h
  in_next (Answers moment ticket outcome) phase d d' s o h = absurd s
  in_next (Forgets ticket) phase d d' s o h = in_equal phase d d' s h
  in_next Stops phase d d' s o h = in_equal phase d d' s h

  -- What is known at the end, with the order of the numbers.
  record AtEnd (phase : Phase) (d : Database S) : Type 0 where
    pub order : InOrder d
    pub is_in : IsIn phase d

  at_end : (events : List BackendEvent) (phase : Phase) (d new : Database S) → DoesAll (StepsAs g k) events d new → InOrder d → IsIn phase d → AtEnd (phase_at_end events phase) new
  at_end [] phase d new s o h = subst (λ (x : Database S). AtEnd phase x) (sym s) (record { order = o; is_in = h })
  at_end (event ∷ events) phase d new s o h =
      at_end events (phase_after event phase) s.0 new s.2 (order_kept g k event d s.0 s.1 o) (in_next event phase d s.0 s.1 o h)

  pub are_told : RoundsAreTold g k
  are_told events old new s quiet all ends =
      let o : InOrder old = record { told = quiet.told; settled = le_of_eq quiet.settled; closed = λ shut. quiet.settled } in
      let e = at_end events Quiet old new s o (quiet.closed, all ∙ sym quiet.settled) in
      let end : AtEnd Quiet new = subst (λ (p : Phase). AtEnd p new) ends e in
      let settled = end.order.closed end.is_in.0 in
      (record { closed = end.is_in.0; settled = settled; told = end.order.told }, end.is_in.1 ∙ settled)
