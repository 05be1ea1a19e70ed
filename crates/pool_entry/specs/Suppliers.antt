-- The USSs that the calls of an entry are made for.
use Rattle.std.specs.Prelude.{◌≡◌, ℕ, List, [], Contains, map, Some, Result, Ok, Err}
use Rattle.policy_core.specs.declared.scope.Caller.{Caller}
use Rattle.service_calls.specs.Run.{TimedCall}
use Rattle.pool_core.specs.Acts.{Makes}
use Rattle.pool_entry.specs.declared.batch_fault.BatchFault.{BatchFault}
use Rattle.pool_entry.specs.declared.pool_call.PoolCall.{PoolCall}
use Rattle.pool_entry.specs.Acts.{acts_of}
use Rattle.pool_entry.specs.Reading.{BatchOf, EntryForm, PurgeUpTo, entry_in}

-- The USS that a call is made for.
abbrev pub supplier_of : PoolCall → List ℕ
supplier_of call = call.caller.uss

abbrev pub suppliers_by : Result EntryForm BatchFault → List (List ℕ)
suppliers_by (Ok (BatchOf calls)) = map supplier_of calls
suppliers_by (Ok (PurgeUpTo until)) = []
suppliers_by (Err fault) = []

-- The USSs that the calls of an entry are made for, one for each call. A purge has none, and neither
-- have bytes that represent no entry.
unfoldable pub suppliers_in : List ℕ → List (List ℕ)
suppliers_in bytes = suppliers_by (entry_in bytes)

-- States that the caller of each call of an entry is one of these USSs.
abbrev pub CallersAreSuppliers : Type 0
CallersAreSuppliers = (bytes : List ℕ) (timed : TimedCall)
    → Contains (acts_of bytes) (Makes timed)
    → (caller : Caller) × (timed.1.caller ≡ Some caller)
    × Contains (suppliers_in bytes) caller.uss
