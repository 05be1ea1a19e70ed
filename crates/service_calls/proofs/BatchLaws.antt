-- Lemmas: the durable airspace after batches from the empty airspace.
use Rattle.std.specs.Prelude.{◌≡◌, ℕ, Bool, true, false, List, [], ◌∷◌, Option}
use Rattle.std.proofs.Common.{sym, ◌∙◌, subst, inl, inr}
use Rattle.entity_core.specs.Airspace.{Airspace, EntityKey, empty_at}
use Rattle.space_core.specs.declared.group_commit.GroupCommit as settles
use Rattle.service_calls.specs.declared.service.Service.{Service}
use Rattle.service_calls.specs.Held.{space_of}
use Rattle.service_calls.specs.Aware.{Aware, MadeCall}
use Rattle.service_calls.specs.Count.{Counts}
use Rattle.service_calls.specs.Stale.{AllNumbered}
use Rattle.service_calls.specs.Run.{airspace_after, answered_calls, has_stopped}
use Rattle.service_calls.specs.Batches.{IfStopped, MayHavePersisted, MayHaveLeft, Batch, RunsInBatches, airspace_of, all_timed, all_delivered, replies_made, timed_in, replies_delivered, uncommitted}
use Rattle.service_calls.proofs.Awares.{Kept, aware_after, kept_empty, kept_run, stepped_numbered}
use Rattle.service_calls.proofs.Counts.{counts_after}
use Rattle.service_calls.proofs.InBatches.{even_in}
use Rattle.service_calls.proofs.Joined.{airspace_then, goes_first, stops_then}

-- If no reply is `Stopped`, only the airspace after all answered calls is durable.
pub kept_all : (salt : List ℕ) (a : Airspace) (batches : List Batch) (b : Airspace) → has_stopped (all_delivered batches) ≡ false → MayHavePersisted salt a batches b → b ≡ airspace_after salt a (answered_calls (all_timed batches) (all_delivered batches))
kept_all salt a [] b goes kept = kept
kept_all salt a (batch ∷ batches) b goes kept =
    let first = goes_first (replies_delivered batch) (all_delivered batches) goes in
    let after = airspace_of salt a batch in
    let then : MayHavePersisted salt after batches b = subst (λ (x : Bool). IfStopped x (MayHaveLeft salt a batch b) (MayHavePersisted salt after batches b)) first kept in
    kept_all salt after batches b (sym (stops_then (replies_delivered batch) (all_delivered batches) first) ∙ goes) then
    ∙ airspace_then salt a (timed_in batch) (replies_delivered batch) (all_timed batches) (all_delivered batches) (even_in batch) first

-- The durable airspace is numbered, whatever the replies are.
pub kept_numbered : (salt : List ℕ) (batches : List Batch) (last : EntityKey → Option MadeCall) (a b : Airspace) → Kept salt last a → MayHavePersisted salt a batches b → AllNumbered salt b
kept_numbered salt [] last a b is kept = subst (AllNumbered salt) (sym kept) is.numbered
kept_numbered salt (batch ∷ batches) last a b is kept =
    elim (has_stopped (replies_delivered batch)) as (λ x. IfStopped x (MayHaveLeft salt a batch b) (MayHavePersisted salt (airspace_of salt a batch) batches b) → AllNumbered salt b) [
      | true ↦ λ left. elim left [
        | inl unmade ↦ subst (AllNumbered salt) (sym unmade) (kept_run salt last (answered_calls (timed_in (uncommitted batch.calls)) (replies_delivered (uncommitted batch.calls))) a is).numbered
        | inr stepped ↦ stepped_numbered salt last a (timed_in batch) (replies_made batch) b is stepped
      ]
      | false ↦ λ more. kept_numbered salt batches _ (airspace_of salt a batch) b (kept_run salt last (answered_calls (timed_in batch) (replies_delivered batch)) a is) more
    ] kept

module _ {S : Type 0} (k : settles.Ghosts S) (salt : List ℕ) (n : ℕ) (batches : List Batch) (new : Service S) (a : Airspace) (runs : RunsInBatches k salt (empty_at n) batches new) where
  pub batches_numbered : k.persists (space_of new) a → AllNumbered salt a
  batches_numbered held = kept_numbered salt batches _ (empty_at n) a (kept_empty salt n) (runs.kept a held)

  pub batches_aware : has_stopped (all_delivered batches) ≡ false → k.persists (space_of new) a → Aware salt (empty_at n) (all_timed batches) (all_delivered batches) a
  batches_aware goes held =
      subst (Aware salt (empty_at n) (all_timed batches) (all_delivered batches)) (sym (kept_all salt (empty_at n) batches a goes (runs.kept a held)))
      (aware_after salt n (all_timed batches) (all_delivered batches) runs.replies goes)

  pub batches_counted : has_stopped (all_delivered batches) ≡ false → k.persists (space_of new) a → Counts salt (empty_at n) (all_timed batches) (all_delivered batches) a
  batches_counted goes held =
      subst (Counts salt (empty_at n) (all_timed batches) (all_delivered batches)) (sym (kept_all salt (empty_at n) batches a goes (runs.kept a held)))
      (counts_after salt n (all_timed batches) (all_delivered batches) runs.replies goes)
