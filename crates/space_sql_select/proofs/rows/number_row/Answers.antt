use Rattle.std.proofs.Common.{rules, ◌≡◌, to_z, of_z, w64}
use Rattle.space_rows.proofs.ReadSoFar.{not_so}
use Rattle.space_sql_select.proofs.Columns.{one_is}
use Rattle.space_sql_select.proofs.TypedRows.{number_typed}
use Rattle.space_sql_select.proofs.rows.number_row.Goals as goal

pub returns-then-not-is_number_row : goal.returns-then-not-is_number_row
returns-then-not-is_number_row c = λ x p. not_so _ _ c.is_number_row.ensures c.if-not-is_number_row.true (number_typed c.args.row.now x p)

pub returns : goal.returns
returns c =
    let typed = c.is_number_row.ensures.0 c.if-not-is_number_row.false in
    let z0 : to_z w64 (of_z w64 c.in_ok-number_at.field-0) ≡ c.in_ok-number_at.field-0 = search rules in
    record {
      written = tt;
      values_are = rw (z0) (one_is _ _ typed.0 c.in_ok-number_at.ensures);
    }
