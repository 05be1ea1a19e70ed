use Rattle.std.proofs.Common.{◌≡◌, ◌+◌, ◌++◌, ◌∷◌, [], ◌∙◌, ap, sym, subst, drop, arith, ℤ, to_z, of_z, w64, rules}
use Rattle.space_rows.proofs.ReadSoFar.{ReadSoFar, front}
use Rattle.space_sql_select.specs.Rows.{IsWrittenNumber, AreRowsOf, number_values}
use Rattle.space_sql_select.proofs.TypedRows.{typed_more, typed_none, typed_all, number_of_values, number_back}
use Rattle.space_sql_select.proofs.rows.number_rows.Goals as goal

pub loop-row-preserved : goal.loop-row-preserved
loop-row-preserved c =
    let n : to_z w64 (of_z w64 c.in-Some.read) ≡ c.in-Some.read = search rules in
    subst (ReadSoFar (AreRowsOf number_values IsWrittenNumber c.args.rows.now) (AreRowsOf number_values IsWrittenNumber (drop (c.loop-row.row-index + 1) c.args.rows.now))) (sym (c.in_ok-push-in-Some.ensures.items ∙ ap (λ (x : ℤ). c.loop-row.out.items ++ x ∷ []) n))
    (typed_more number_values IsWrittenNumber number_of_values number_back c.args.rows.now c.loop-row.row-index c.row-item.result c.in-Some.read c.loop-row.out.items (front c.args.rows.now c.loop-row.row-index c.row-item.result c.loop-row-test.true c.row-item.is) (rw c.in-Some.is at c.in_ok-read.ensures) c.loop-row.invariant)

pub returns-in-None : goal.returns-in-None
returns-in-None c =
    typed_none number_values IsWrittenNumber number_of_values number_back c.args.rows.now c.loop-row.row-index c.row-item.result c.loop-row.out.items (front c.args.rows.now c.loop-row.row-index c.row-item.result c.loop-row-test.true c.row-item.is) (rw c.in-None.is at c.in_ok-read.ensures) c.loop-row.invariant

pub returns : goal.returns
returns c = typed_all number_values IsWrittenNumber number_of_values number_back c.args.rows.now c.loop-row.row-index c.loop-row.out.items (omega arith) c.loop-row.invariant
