use Rattle.std.proofs.Common.{ap}
use Rattle.space_memory.specs.CellIndex.{Mark}
use Rattle.space_memory.proofs.CellSets.{removed_keeps}
use Rattle.space_memory.proofs.cell_index.unmark_cells.Goals as goal

pub loop-cell-preserved : goal.loop-cell-preserved
loop-cell-preserved c = removed_keeps c.args.holder c.args.marks.now c.loop-cell.marks c.remove.new.self c.mark.result (ap (λ (k : Mark). k.1) c.mark.ensures.mark) (ap (λ (k : Mark). k.2) c.mark.ensures.mark) c.loop-cell.invariant c.remove.ensures.updates
