-- The acts that an entry of the log represents, a function of its bytes.
use Rattle.std.specs.Prelude.{◌≡◌, ℕ, List, [], ◌∷◌, map, Result, Ok, Err}
use Rattle.pool_core.specs.Acts.{Act, Purges, makes_all}
use Rattle.pool_entry.specs.declared.batch_fault.BatchFault.{BatchFault}
use Rattle.pool_entry.specs.declared.batch_fault.ReadError.{ReadError}
use Rattle.pool_entry.specs.declared.batch_fault.ReadError.TheVariants as errors
use Rattle.pool_entry.specs.declared.entry.EntryActs.{EntryActs}
use Rattle.pool_entry.specs.declared.entry.EntryActs.TheVariants.{Calls, Purge}
use Rattle.pool_entry.specs.Calls.{timed_call}
use Rattle.pool_entry.specs.Reading.{BatchOf, EntryForm, PurgeUpTo, entry_in}

-- The acts of an entry. Bytes that represent neither a batch nor a purge have none.
abbrev pub acts_by : Result EntryForm BatchFault → List Act
acts_by (Ok (BatchOf calls)) = makes_all (map timed_call calls)
acts_by (Ok (PurgeUpTo until)) = Purges until ∷ []
acts_by (Err fault) = []

-- The acts that the bytes of an entry represent.
unfoldable pub acts_of : List ℕ → List Act
acts_of bytes = acts_by (entry_in bytes)

-- The acts that were read.
abbrev pub acts_read : EntryActs → List Act
acts_read (Calls calls) = makes_all calls.items
acts_read (Purge until) = Purges until ∷ []

-- Holds if the error is possible: memory ran out, or the fault is that of the bytes, which then
-- represent no acts.
abbrev pub IsEntryError : ReadError → List ℕ → Type 0
IsEntryError errors.Memory bytes = Unit {0}
IsEntryError (errors.Fault fault) bytes = (entry_in bytes ≡ Err fault) × (acts_of bytes ≡ [])
