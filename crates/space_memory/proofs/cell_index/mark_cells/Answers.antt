use Rattle.std.proofs.Common.{subst, true, ◌≡◌}
use Rattle.std.specs.BTreeSet.{contains}
use Rattle.space_memory.specs.CellIndex.{IsMarked, Mark, mark_cmp}
use Rattle.space_memory.proofs.CellSets.{more_done, all_done, inserted_grows}
use Rattle.space_memory.proofs.CellMeetings.{marked_more}
use Rattle.space_memory.proofs.cell_index.mark_cells.Goals as goal

pub loop-cell-preserved : goal.loop-cell-preserved
loop-cell-preserved c =
    let old = c.loop-cell.marks in
    let new = c.insert.new.self in
    let grows = inserted_grows old new c.mark.result c.in_ok-insert.ensures.updates in
    record {
      kept = λ q h. grows q (c.loop-cell.invariant.kept q h);
      marked = more_done (IsMarked old c.args.holder c.args.volume) (IsMarked new c.args.holder c.args.volume) c.args.cells.now c.loop-cell.cell-index c.cell-item.result c.loop-cell-test.true c.cell-item.is (marked_more c.args.holder old new grows c.args.volume)
          (record { cell = c.mark.ensures.valid; narrow = c.mark.ensures.narrow; mark = subst (λ (k : Mark). contains mark_cmp new k ≡ true) c.mark.ensures.mark c.in_ok-insert.ensures.updates.1 }) c.loop-cell.invariant.marked;
    }

pub returns-clause-marked : goal.returns-clause-marked
returns-clause-marked c = all_done (IsMarked c.loop-cell.marks c.args.holder c.args.volume) c.args.cells.now c.loop-cell.cell-index c.loop-cell-test.false c.loop-cell.invariant.marked
