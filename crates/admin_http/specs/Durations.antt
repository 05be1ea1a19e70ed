-- The histogram bucket of a duration.
use Rattle.std.specs.Prelude.{◌<◌, ◌≤◌, ℕ, List, [], ◌∷◌, get_or, length}

-- The bounds in nanoseconds, from half a millisecond to two and a half seconds.
abbrev pub bounds : List ℕ
bounds =
    500_000 ∷ 1_000_000 ∷ 2_500_000 ∷ 5_000_000 ∷ 10_000_000 ∷ 25_000_000
    ∷ 50_000_000 ∷ 100_000_000 ∷ 250_000_000 ∷ 500_000_000 ∷ 1_000_000_000 ∷ 2_500_000_000 ∷ []

-- States that this is the index of the first bound that the duration does not exceed, or the number
-- of bounds if it exceeds all.
pub record IsPlace (time place : ℕ) : Type 0 where
  pub exceeds : (k : ℕ) → k < place → get_or bounds k 0 < time
  pub within : place < length bounds → time ≤ get_or bounds place 0
  pub place_fits : place ≤ length bounds
