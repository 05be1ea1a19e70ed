-- Cells of the grid: the cell ids of S2 Geometry.
use Rattle.std.specs.Prelude.{◌≡◌, ℕ, ◌+◌, ◌-◌, ◌*◌, ◌^◌, ◌/◌, ◌≤◌, ◌<◌, List, [], ◌∷◌, ◌++◌, ◌⊎◌, length, take}
use Rattle.std.specs.List.{AllByRecursion}

-- A face, and one digit for each level below it, the coarsest level first.
pub record Cell : Type 0 where
  pub face : ℕ
  pub digits : List ℕ

pub record IsCell (c : Cell) : Type 0 where
  pub face : c.face ≤ 5
  pub levels : length c.digits ≤ 30
  pub digits : AllByRecursion (λ d. d < 4) c.digits

-- The sum of the digits from level i on. Each digit takes the two bits of its level. A single 1 bit
-- follows the last digit.
abbrev pub digits_sum : ℕ → List ℕ → ℕ
digits_sum i [] = 2 ^ (60 - 2 * i)
digits_sum i (d ∷ ds) = d * 2 ^ (61 - 2 * (i + 1)) + digits_sum (i + 1) ds

-- The number of a cell. The top three bits are the face. The digit of level l is at 2 ^ (61 - 2 *
-- l). With L digits, the bit 2 ^ (60 - 2 * L) is set.
unfoldable pub number_of : Cell → ℕ
number_of c = c.face * 2 ^ 61 + digits_sum 0 c.digits

abbrev pub IsPrefix : List ℕ → List ℕ → Type 0
IsPrefix xs ys = (rest : List ℕ) × (xs ++ rest ≡ ys)

-- Holds if the first cell contains the second.
pub record Contains (a b : Cell) : Type 0 where
  pub face : a.face ≡ b.face
  pub prefix : IsPrefix a.digits b.digits

-- The cell at level 13 that contains a finer cell. A coarser cell is returned unchanged.
abbrev pub cut : Cell → Cell
cut c = record { face = c.face; digits = take 13 c.digits }

-- Holds if two cells, cut to level 13, are equal or one contains the other.
abbrev pub Touch : Cell → Cell → Type 0
Touch a b = Contains (cut a) (cut b) ⊎ Contains (cut b) (cut a)

-- The cell at a coarser level that contains a cell, and the child of a cell with one more digit.
abbrev pub parent_of : Cell → ℕ → Cell
parent_of c level = record { face = c.face; digits = take level c.digits }

abbrev pub child_of : Cell → ℕ → Cell
child_of c digit = record { face = c.face; digits = c.digits ++ digit ∷ [] }

-- The lowest and the highest number of a cell of the finest level inside a cell.
abbrev pub range_min : Cell → ℕ
range_min c = number_of c + 1 - 4 ^ (30 - length c.digits)

abbrev pub range_max : Cell → ℕ
range_max c = number_of c + 4 ^ (30 - length c.digits) - 1

-- The indexes of the first and the last level-13 cell inside a cell, among all cells of that level.
abbrev pub lo_of : Cell → ℕ
lo_of c = range_min c / 2 ^ 35

abbrev pub hi_of : Cell → ℕ
hi_of c = range_max c / 2 ^ 35
