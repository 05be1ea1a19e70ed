-- The cell with a given number.
use Rattle.std.specs.Prelude.{◌≡◌, ℕ, zero, suc, ◌+◌, ◌-◌, ◌*◌, ◌^◌, ◌/◌, ◌%◌, ◌≤◌, ◌<◌, List, [], ◌∷◌}
use Rattle.std.specs.Int.{w64, trailing_zeros}
use Rattle.grid_core.specs.Cell.{Cell}

-- The digits appended to a face in base 4: the path from the face down.
abbrev pub path : ℕ → List ℕ → ℕ
path f [] = f
path f (d ∷ ds) = path (4 * f + d) ds

-- The last l digits of a path, the coarsest first.
abbrev pub digits : ℕ → ℕ → List ℕ
digits zero p = []
digits (suc l) p = p / 4 ^ l % 4 ∷ digits l p

-- The cell of level l at a path.
unfoldable pub cell_at : ℕ → ℕ → Cell
cell_at l p = record { face = p / 4 ^ l; digits = digits l p }

-- The cell with this number.
unfoldable pub cell_of : ℕ → Cell
cell_of n = cell_at (30 - trailing_zeros w64 n / 2) (n / 2 ^ (trailing_zeros w64 n + 1))

-- Holds if the lowest 1 bit of a number is at an even position up to 60 and the face is valid.
pub record IsNumber (n : ℕ) : Type 0 where
  pub place : trailing_zeros w64 n ≤ 60
  pub even : trailing_zeros w64 n % 2 ≡ 0
  pub face : n / 2 ^ 61 ≤ 5
  pub fits : n < 2 ^ 64
  pub some : 0 < n
