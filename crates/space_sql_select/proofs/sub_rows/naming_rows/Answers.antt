use Rattle.std.proofs.Common.{◌+◌, sym, subst, drop, arith}
use Rattle.space_rows.proofs.ReadSoFar.{ReadSoFar, front}
use Rattle.space_sql_select.specs.Rows.{IsWrittenNaming, AreRowsOf, values_of_naming}
use Rattle.space_sql_select.proofs.TypedRows.{typed_more, typed_none, typed_all, naming_of_values, naming_back}
use Rattle.space_sql_select.proofs.sub_rows.naming_rows.Goals as goal

pub loop-row-preserved : goal.loop-row-preserved
loop-row-preserved c =
    subst (ReadSoFar (AreRowsOf values_of_naming IsWrittenNaming c.args.rows.now) (AreRowsOf values_of_naming IsWrittenNaming (drop (c.loop-row.row-index + 1) c.args.rows.now))) (sym c.in_ok-push-in-Some.ensures.items)
    (typed_more values_of_naming IsWrittenNaming naming_of_values naming_back c.args.rows.now c.loop-row.row-index c.row-item.result c.in-Some.read c.loop-row.out.items (front c.args.rows.now c.loop-row.row-index c.row-item.result c.loop-row-test.true c.row-item.is) (rw c.in-Some.is at c.in_ok-read.ensures) c.loop-row.invariant)

pub returns-in-None : goal.returns-in-None
returns-in-None c =
    typed_none values_of_naming IsWrittenNaming naming_of_values naming_back c.args.rows.now c.loop-row.row-index c.row-item.result c.loop-row.out.items (front c.args.rows.now c.loop-row.row-index c.row-item.result c.loop-row-test.true c.row-item.is) (rw c.in-None.is at c.in_ok-read.ensures) c.loop-row.invariant

pub returns : goal.returns
returns c = typed_all values_of_naming IsWrittenNaming naming_of_values naming_back c.args.rows.now c.loop-row.row-index c.loop-row.out.items (omega arith) c.loop-row.invariant
