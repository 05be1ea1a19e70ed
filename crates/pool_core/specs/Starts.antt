-- An instance that starts with an airspace.
use Rattle.std.specs.Prelude.{◌≡◌, ◌≤◌, ℕ, List, [], ◌++◌, length, map, take}
use Rattle.pool_core.specs.Events.{Batch, Gets, PoolEvent, entries_given, events_at}
use Rattle.pool_core.specs.Pool.{IsPool, entry_of_batch}

-- The events of an instance that is given these entries.
abbrev pub gets_of : (instance : ℕ) → List Batch → List PoolEvent
gets_of i batches = map (λ b. record { instance = i; event = Gets (entry_of_batch b) }) batches

-- States that a new instance can be given the first entries of the log at once.
abbrev pub MayStartBehind : Type 0
MayStartBehind = (events : List PoolEvent) (pool : IsPool events) (i count : ℕ)
    → events_at i events ≡ [] → count ≤ length pool.log
    → let more = gets_of i (take count pool.log) in (after : IsPool (events ++ more))
    × (after.log ≡ pool.log)
    × (entries_given (events_at i (events ++ more)) ≡ map entry_of_batch (take count pool.log))
