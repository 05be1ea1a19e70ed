use Rattle.std.proofs.Common.{◌+◌, sym, subst, drop, arith}
use Rattle.space_rows.proofs.ReadSoFar.{ReadSoFar, front}
use Rattle.space_sql_select.specs.Rows.{AreRowsOf}
use Rattle.space_sql_select.proofs.TypedRows.{typed_more, typed_none, typed_all}
use Rattle.space_sql_open.specs.OldRows.{IsWrittenRecord, record_values}
use Rattle.space_sql_open.proofs.Layings.{record_of_values, record_back, is_record, no_record}
use Rattle.space_sql_open.proofs.old_rows.setting_records.Goals as goal

pub loop-row-preserved : goal.loop-row-preserved
loop-row-preserved c =
    subst (ReadSoFar (AreRowsOf record_values IsWrittenRecord c.args.rows.now) (AreRowsOf record_values IsWrittenRecord (drop (c.loop-row.row-index + 1) c.args.rows.now))) (sym c.in_ok-push-in-Some.ensures.items)
    (typed_more record_values IsWrittenRecord record_of_values record_back c.args.rows.now c.loop-row.row-index c.row-item.result c.in-Some.read c.loop-row.out.items (front c.args.rows.now c.loop-row.row-index c.row-item.result c.loop-row-test.true c.row-item.is) (is_record c.row-item.result c.in-Some.read (rw c.in-Some.is at c.in_ok-read.ensures)) c.loop-row.invariant)

pub returns-in-None : goal.returns-in-None
returns-in-None c =
    typed_none record_values IsWrittenRecord record_of_values record_back c.args.rows.now c.loop-row.row-index c.row-item.result c.loop-row.out.items (front c.args.rows.now c.loop-row.row-index c.row-item.result c.loop-row-test.true c.row-item.is) (no_record c.row-item.result (rw c.in-None.is at c.in_ok-read.ensures)) c.loop-row.invariant

pub returns : goal.returns
returns c = typed_all record_values IsWrittenRecord record_of_values record_back c.args.rows.now c.loop-row.row-index c.loop-row.out.items (omega arith) c.loop-row.invariant
