use Rattle.space_memory.specs.Near.{HasSpansOf}
use Rattle.space_memory.proofs.CellSets.{more_done, all_done}
use Rattle.space_memory.proofs.CellMeetings.{spans_more}
use Rattle.space_memory.proofs.near.add_all.Goals as goal

pub loop-cell-preserved : goal.loop-cell-preserved
loop-cell-preserved c = record {
  kept = λ k b h. c.add_cell.ensures.kept k b (c.loop-cell.invariant.kept k b h);
  there = more_done (HasSpansOf c.loop-cell.spans c.args.bits) (HasSpansOf c.add_cell.new.spans c.args.bits) c.args.cells.now c.loop-cell.cell-index c.cell-item.result c.loop-cell-test.true c.cell-item.is (spans_more c.loop-cell.spans c.add_cell.new.spans c.add_cell.ensures.kept c.args.bits) c.in_ok-add_cell.ensures.there c.loop-cell.invariant.there;
}

pub returns-clause-there : goal.returns-clause-there
returns-clause-there c = all_done (HasSpansOf c.loop-cell.spans c.args.bits) c.args.cells.now c.loop-cell.cell-index c.loop-cell-test.false c.loop-cell.invariant.there
