-- Areas prepared for searching: the intervals of their cells at level 13, sorted and merged.
use Rattle.std.specs.Prelude.{◌≡◌, ℕ, ◌≤◌, ◌<◌, nat_le, Bool, ◌&&◌, List, map}
use Rattle.std.specs.List.{All, AllPairs, list_any}
use Rattle.grid_core.specs.Cell.{Cell, IsCell, lo_of, hi_of}
use Rattle.grid_core.specs.declared.sorted_area.Interval.{Interval}

-- The indexes of the first and the last level-13 cell inside a cell.
abbrev pub interval_of : Cell → Interval
interval_of c = record { lo = lo_of c; hi = hi_of c }

abbrev pub IsOrdered : Interval → Type 0
IsOrdered i = i.lo ≤ i.hi

-- Holds if each interval ends before all later ones begin.
abbrev pub AreApart : List Interval → Type 0
AreApart is = AllPairs (λ (i j : Interval). i.hi < j.lo) is

-- True if a position lies in an interval.
abbrev pub lies_in : ℕ → Interval → Bool
lies_in n i = nat_le i.lo n && nat_le n i.hi

-- Holds if the same positions lie in some interval of each list.
abbrev pub HaveSamePlaces : List Interval → List Interval → Type 0
HaveSamePlaces is js = (n : ℕ) → list_any (lies_in n) is ≡ list_any (lies_in n) js

-- True if neither interval ends before the other begins.
abbrev pub overlap : Interval → Interval → Bool
overlap i j = nat_le i.lo j.hi && nat_le j.lo i.hi

-- Holds if the intervals are apart and have exactly the positions of the cells.
pub record IsSorted (cells : List Cell) (intervals : List Interval) : Type 0 where
  pub valid : All IsCell cells
  pub ordered : All IsOrdered intervals
  pub apart : AreApart intervals
  pub same : HaveSamePlaces intervals (map interval_of cells)
