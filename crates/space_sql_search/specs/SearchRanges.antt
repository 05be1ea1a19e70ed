-- Definitions of the intervals for which the index is queried.
use Rattle.std.specs.Prelude.{ℕ, pos, ◌<◌, List, length}
use Rattle.std.specs.List.{AllByRecursion}
use Rattle.std.specs.List.Sorted.{IsStrictlySortedBy}
use Rattle.std.specs.Ordering.{int_cmp, ordering_then}
use Rattle.std.specs.declared.cmp.Ordering.{Ordering}
use Rattle.sqlite_rules.specs.Lists.{Has}
use Rattle.grid_core.specs.Cell.{Cell, IsCell, lo_of, hi_of, parent_of}
use Rattle.grid_core.specs.Extent.{Region}
use Rattle.space_sql_search.specs.declared.search_ranges.SearchRanges.{SearchRanges}
use Rattle.space_sql_search.specs.declared.interval.Interval.{Interval}

abbrev pub interval_of : Cell → Interval
interval_of c = record { lo = pos (lo_of c); hi = pos (hi_of c) }

-- The order of intervals, by their first and then by their last positions. No interval occurs
-- twice.
abbrev pub interval_cmp : Interval → Interval → Ordering
interval_cmp i j = ordering_then (int_cmp i.lo j.lo) (int_cmp i.hi j.hi)

abbrev pub AreEachOnce : List Interval → Type 0
AreEachOnce searched = IsStrictlySortedBy interval_cmp searched

-- Holds if every element of the first list is in the second.
abbrev pub IsSubset : {X : Type 0} → List X → List X → Type 0
IsSubset {X} xs ys = (x : X) → Has xs x → Has ys x

-- Holds if the intervals of a cell's ancestors of levels below 13 are in the list.
abbrev pub HasAncestors : List Interval → Cell → Type 0
HasAncestors is c =
    (k : ℕ) → k < length c.digits → k < 13 → Has is (interval_of (parent_of c k))

-- Holds if the second search has every interval of the first.
abbrev pub KeepsRanges : SearchRanges → SearchRanges → Type 0
KeepsRanges old new =
    IsSubset old.ranges.items new.ranges.items × IsSubset old.ancestors.items new.ancestors.items

-- Holds if the search has the intervals of a cell and its ancestors.
pub record AsksFor (searched : SearchRanges) (c : Cell) : Type 0 where
  pub is_cell : IsCell c
  pub range : Has searched.ranges.items (interval_of c)
  pub ancestors : HasAncestors searched.ancestors.items c

-- Holds if the search has all cells of the areas.
abbrev pub AsksForAll : SearchRanges → List Region → Type 0
AsksForAll searched areas = AllByRecursion (λ r. AllByRecursion (AsksFor searched) r.cells) areas
