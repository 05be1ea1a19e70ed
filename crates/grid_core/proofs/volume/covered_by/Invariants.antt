use Rattle.std.proofs.Common.{◌≡◌, ◌≤◌, ◌*◌, take}
use Rattle.grid_core.specs.Extent.{covered_by}
use Rattle.grid_core.proofs.volume.covered_by.Given as goal

abbrev pub invariant-loop-cell : goal.invariant-loop-cell
invariant-loop-cell l = record {
  total : l.total ≡ covered_by (take l.cell-index l.cells);
  most : l.total ≤ 67108864 * l.cell-index;
}
