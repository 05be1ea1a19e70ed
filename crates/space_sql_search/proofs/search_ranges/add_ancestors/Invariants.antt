use Rattle.std.proofs.Common.{ℕ, ◌<◌}
use Rattle.sqlite_rules.specs.Lists.{Has}
use Rattle.grid_core.specs.Cell.{parent_of}
use Rattle.space_sql_search.specs.SearchRanges.{IsSubset, interval_of}
use Rattle.space_sql_search.proofs.search_ranges.add_ancestors.Given as goal

abbrev pub invariant-loop-level : goal.invariant-loop-level
invariant-loop-level l = record {
  keeps : IsSubset l.fn.out.items l.out.items;
  each : (k : ℕ) → k < l.level → Has l.out.items (interval_of (parent_of l.cell k));
}
