use Rattle.std.proofs.Common.{to_z-of_z}
use Rattle.space_rows.proofs.CellRows.{no_range}
use Rattle.space_rows.proofs.ReadSoFar.{not_so}
use Rattle.space_rows.proofs.cells.cell_in.Goals as goal

pub returns-else-has_range : goal.returns-else-has_range
returns-else-has_range c =
    let tested = rw (to_z-of_z c.ranges.lo, to_z-of_z c.ranges.hi) at c.has_range.ensures in
    no_range c.args.text.now c.args.lo c.args.hi c.in-Some.cell (rw c.in-Some.is at c.in_ok-cell.ensures) (not_so _ _ tested c.if-has_range.false)
