use Rattle.std.proofs.Common.{◌≤◌, List, length, subst, sym}
use Rattle.grid_core.specs.Cell.{Cell}
use Rattle.space_rows.proofs.SubRows.{few_cells}
use Rattle.space_rows.proofs.sub.rows_of_sub.Goals as goal

pub cell_rows-requires-clause-count : goal.cell_rows-requires-clause-count
cell_rows-requires-clause-count c =
    subst (λ (cs : List Cell). length cs ≤ 512) (sym {A = List Cell} c.cells.ensures) (few_cells c.args.sub.now.volume c.in_ok-row.ensures.bounds.limits)
