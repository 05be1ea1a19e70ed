use Rattle.std.proofs.Common.{take}
use Rattle.std.specs.List.{AllByRecursion}
use Rattle.space_sql_search.specs.SearchRanges.{KeepsRanges, AsksFor}
use Rattle.space_sql_search.proofs.search_ranges.add_cells.Given as goal

abbrev pub invariant-loop-cell : goal.invariant-loop-cell
invariant-loop-cell l = record {
  keeps : KeepsRanges l.fn.searched l.searched;
  each : AllByRecursion (AsksFor l.searched) (take l.cell-index l.cells);
}
