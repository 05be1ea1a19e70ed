use Rattle.std.proofs.Common.{take}
use Rattle.space_sql_search.specs.SearchRanges.{AsksForAll}
use Rattle.space_sql_search.proofs.search_ranges.ranges_of.Given as goal

abbrev pub invariant-loop-area : goal.invariant-loop-area
invariant-loop-area l = AsksForAll l.searched (take l.area-index l.areas)
