use Rattle.std.proofs.Common.{◌<◌, arith, length}
use Rattle.grid_core.proofs.Sorts.{intervals_more, valid_more}
use Rattle.grid_core.proofs.sorted_area.intervals_of.Goals as goal

pub loop-cell-preserved : goal.loop-cell-preserved
loop-cell-preserved c =
    let lt : c.loop-cell.cell-index < length c.args.cells.now = omega arith in
    record {
      items = intervals_more c.args.cells.now c.loop-cell.cell-index c.cell-item.result c.interval_of.result c.loop-cell.intervals.items c.push.new.self.items lt c.cell-item.is c.interval_of.ensures.value c.in_ok-push.ensures.items c.loop-cell.invariant.items;
      valid = valid_more c.args.cells.now c.loop-cell.cell-index c.cell-item.result lt c.cell-item.is c.interval_of.ensures.valid c.loop-cell.invariant.valid;
    }
