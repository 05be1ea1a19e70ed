-- Adding a call to a batch.
use Rattle.std.specs.Prelude.{◌≡◌, List, [], ◌∷◌, ◌++◌}
use Rattle.pool_entry.specs.declared.batch.PushError.{PushError}
use Rattle.pool_entry.specs.declared.batch.PushError.TheVariants.{Full, Memory}
use Rattle.pool_entry.specs.declared.pool_call.PoolCall.{PoolCall}
use Rattle.pool_entry.specs.Spelling.{IsBatch}

-- Holds if a batch can refuse a call so: it returns the call if both together are no batch.
abbrev pub Refuses : List PoolCall → PoolCall → PushError → Type 0
Refuses calls call (Full given) = (given ≡ call) × (IsBatch (calls ++ call ∷ []) → ⊥)
Refuses calls call Memory = Unit {0}
