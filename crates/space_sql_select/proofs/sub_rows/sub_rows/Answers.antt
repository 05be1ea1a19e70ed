use Rattle.std.proofs.Common.{◌+◌, sym, subst, drop, arith}
use Rattle.space_rows.proofs.ReadSoFar.{ReadSoFar, front}
use Rattle.space_sql_schema.specs.Spelling.{sub_values}
use Rattle.space_sql_select.specs.Rows.{IsWrittenSub, AreRowsOf}
use Rattle.space_sql_schema.proofs.OneAirspace.{sub_of_values, sub_back}
use Rattle.space_sql_select.proofs.TypedRows.{typed_more, typed_none, typed_all}
use Rattle.space_sql_select.proofs.sub_rows.sub_rows.Goals as goal

pub loop-row-preserved : goal.loop-row-preserved
loop-row-preserved c =
    subst (ReadSoFar (AreRowsOf sub_values IsWrittenSub c.args.rows.now) (AreRowsOf sub_values IsWrittenSub (drop (c.loop-row.row-index + 1) c.args.rows.now))) (sym c.in_ok-push-in-Some.ensures.items)
    (typed_more sub_values IsWrittenSub sub_of_values sub_back c.args.rows.now c.loop-row.row-index c.row-item.result c.in-Some.read c.loop-row.out.items (front c.args.rows.now c.loop-row.row-index c.row-item.result c.loop-row-test.true c.row-item.is) (rw c.in-Some.is at c.in_ok-read.ensures) c.loop-row.invariant)

pub returns-in-None : goal.returns-in-None
returns-in-None c =
    typed_none sub_values IsWrittenSub sub_of_values sub_back c.args.rows.now c.loop-row.row-index c.row-item.result c.loop-row.out.items (front c.args.rows.now c.loop-row.row-index c.row-item.result c.loop-row-test.true c.row-item.is) (rw c.in-None.is at c.in_ok-read.ensures) c.loop-row.invariant

pub returns : goal.returns
returns c = typed_all sub_values IsWrittenSub sub_of_values sub_back c.args.rows.now c.loop-row.row-index c.loop-row.out.items (omega arith) c.loop-row.invariant
