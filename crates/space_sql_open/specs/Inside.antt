-- Definitions of steps within an open transaction.
use Rattle.std.specs.Prelude.{◌≡◌, Result}
use Rattle.sqlite_schema.specs.declared.schema.Schema.{Schema}
use Rattle.sqlite.specs.Effect.{Database}
use Rattle.sqlite.specs.State.{State, HasCleanDisk, KeepsCommit, Survives}

-- Holds if, with tables of the schema, R relates the database before, the one after, and the
-- result. Whatever the result, the last commit stays. A crash leaves what it would have left
-- before.
pub record Inside {X E : Type 0} (schema : Schema)
    (R : Database → Database → Result X E → Type 0) (old new : State) (result : Result X E)
    : Type 0 where
  pub done : HasCleanDisk new → old.now.schema ≡ schema → R old.now new.now result
  pub kept : HasCleanDisk new → old.now.schema ≡ schema → KeepsCommit old new
  pub survives : Survives old new (λ _. ⊥)
