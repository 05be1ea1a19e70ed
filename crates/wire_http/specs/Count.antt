-- Counts of calls and failures, which stop at their maximum.
use Rattle.std.specs.Prelude.{◌≡◌, ◌≤◌, ◌⊎◌, ℕ, zero, suc, Bool, true, false, ◌+◌, ◌-◌, ◌^◌, min, Result, Ok, Err}

-- The maximum of a count.
abbrev pub max_count : ℕ
max_count = 2 ^ 64 - 1

-- The count plus one, up to its maximum.
abbrev pub one_more : ℕ → ℕ
one_more n = min (n + 1) max_count

-- The count of failures after a read.
abbrev pub after_read : {E : Type 0} → Result ℕ E → ℕ → ℕ
after_read (Ok n) count = count
after_read (Err e) count = one_more count

-- The count of failures after a write. A write that takes no byte is a failure.
abbrev pub after_write : {E : Type 0} → Result ℕ E → ℕ → ℕ
after_write (Ok zero) count = one_more count
after_write (Ok (suc n)) count = count
after_write (Err e) count = one_more count

-- The count of failures after a flush.
abbrev pub after_flush : {A E : Type 0} → Result A E → ℕ → ℕ
after_flush (Ok u) count = count
after_flush (Err e) count = one_more count

-- Returns true if a read, a write or a flush failed.
abbrev pub is_failed_read : {E : Type 0} → Result ℕ E → Bool
is_failed_read (Ok n) = false
is_failed_read (Err e) = true

abbrev pub is_failed_write : {E : Type 0} → Result ℕ E → Bool
is_failed_write (Ok zero) = true
is_failed_write (Ok (suc n)) = false
is_failed_write (Err e) = true

abbrev pub is_failed_flush : {A E : Type 0} → Result A E → Bool
is_failed_flush (Ok u) = false
is_failed_flush (Err e) = true

-- Holds if one call failed and no other call came after it.
abbrev pub FailsLast : ℕ → ℕ → Bool → Type 0
FailsLast failures failures' failed = (failures' ≡ one_more failures) × (failed ≡ true)

-- Holds if the count is at its maximum.
abbrev pub IsMax : ℕ → Type 0
IsMax count = max_count ≤ count

-- Holds if no count fell, and the count of calls rose by the number of turns that were used, or is
-- at its maximum.
abbrev pub Spends : ℕ → ℕ → ℕ → ℕ → Type 0
Spends left left' calls calls' = (left' ≤ left) × (calls ≤ calls')
    × ((calls' + left' ≡ calls + left) ⊎ IsMax calls')

-- The maximum number of reads of a stream.
abbrev pub max_reads : ℕ
max_reads = 1000000

-- The maximum number of requests of a stream.
abbrev pub max_requests : ℕ
max_requests = 100
