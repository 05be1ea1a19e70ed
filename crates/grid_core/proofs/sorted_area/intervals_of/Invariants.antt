use Rattle.std.proofs.Common.{◌≡◌, take, map}
use Rattle.std.specs.List.{All}
use Rattle.grid_core.specs.Cell.{IsCell}
use Rattle.grid_core.specs.SortedArea.{interval_of}
use Rattle.grid_core.proofs.sorted_area.intervals_of.Given as goal

abbrev pub invariant-loop-cell : goal.invariant-loop-cell
invariant-loop-cell l = record {
  items : l.intervals.items ≡ map interval_of (take l.cell-index l.cells);
  valid : All IsCell (take l.cell-index l.cells);
}
