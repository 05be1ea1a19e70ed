-- Sums of `u64` that saturate.
use Rattle.std.specs.Prelude.{◌+◌, ◌-◌, ◌^◌, ℕ, min}

-- Adds two numbers, saturating at the maximum of `u64`.
abbrev pub add : (a b : ℕ) → ℕ
add a b = min (a + b) (2 ^ 64 - 1)
