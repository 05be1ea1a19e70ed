-- The time span of volumes, the cells they cover and the areas they meet.
use Rattle.std.specs.Prelude.{◌≡◌, ℕ, ◌≤◌, nat_le, Bool, if◌then◌else◌, List, [], ◌∷◌, sum_by}
use Rattle.std.specs.List.{Any, AllByRecursion, fold, list_any}
use Rattle.grid_core.specs.Extent.{Extent, Region, covered_by, meets, region_of}

-- Holds if the span begins when the first volume begins and ends when the last one ends.
pub record IsSpan (es : List Extent) (span : ℕ × ℕ) : Type 0 where
  pub starts : Any (λ e. e.time.0 ≡ span.0) es
  pub first : AllByRecursion (λ e. span.0 ≤ e.time.0) es
  pub ends : Any (λ e. e.time.1 ≡ span.1) es
  pub last : AllByRecursion (λ e. e.time.1 ≤ span.1) es

-- ---- the same, computed

abbrev pub earlier : ℕ → ℕ → ℕ
earlier a b = if nat_le a b then a else b

abbrev pub later : ℕ → ℕ → ℕ
later a b = if nat_le a b then b else a

abbrev pub wider : ℕ × ℕ → ℕ × ℕ → ℕ × ℕ
wider a b = (earlier a.0 b.0, later a.1 b.1)

-- The earliest start and the latest end of the volumes. Without volumes, (0, 0).
abbrev pub span_of : List Extent → ℕ × ℕ
span_of [] = (0, 0)
span_of (e ∷ es) = fold (λ span v. wider span v.time) e.time es

-- ---- covered cells

-- The number of level-13 cells that the volumes count for, summed over volumes and cells.
abbrev pub covered_sum : List Extent → ℕ
covered_sum es = sum_by (λ e. covered_by e.cells) es

-- ---- areas that volumes meet

-- True if a volume meets some area.
abbrev pub meets_some : Extent → List Region → Bool
meets_some v areas = list_any (λ area. meets (region_of v) area) areas
