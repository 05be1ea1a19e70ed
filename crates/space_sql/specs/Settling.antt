-- Definitions of the result of a space, given the result of its connection.
use Rattle.std.specs.Prelude.{◌≡◌, Result, Ok, IsErr, IsErrOf, MatchResult}
use Rattle.sqlite_trees.specs.declared.store.Store.{Ghosts}
use Rattle.sqlite.specs.Held.{Held, state}
use Rattle.sqlite.specs.State.{HasCleanDisk, IsUnchanged, Survives}
use Rattle.sqlite.specs.declared.error.Error.{Error}
use Rattle.space_core.specs.declared.space.SpaceFault.{SpaceFault}
use Rattle.space_core.specs.declared.space.SpaceFault.TheVariants.{Unchanged}

-- Holds if a result is passed on and an error becomes a fault. The fault is `Unchanged` only if the
-- connection is as it was. Nothing is committed.
pub record Settles {S T : Type 0} (g : Ghosts S) (old new : Held S) (told : Result T Error)
    (result : Result T SpaceFault) : Type 0 where
  pub passes : MatchResult told (λ x. (result ≡ Ok x) × (new ≡ old)) (λ _. IsErr result)
  pub same : HasCleanDisk (state g new) → IsErrOf result Unchanged
      → IsUnchanged (state g old) (state g new)
  pub survives : Survives (state g old) (state g new) (λ _. ⊥)
