use Rattle.std.proofs.Common.{rules, ◌≡◌, to_z, of_z, w64}
use Rattle.space_rows.proofs.ReadSoFar.{not_so}
use Rattle.space_sql_select.proofs.Columns.{two_are}
use Rattle.space_sql_select.proofs.TypedRows.{naming_typed}
use Rattle.space_sql_select.proofs.sub_rows.naming_row.Goals as goal

pub returns-then-not-is_naming_row : goal.returns-then-not-is_naming_row
returns-then-not-is_naming_row c = λ x p. not_so _ _ c.is_naming_row.ensures c.if-not-is_naming_row.true (naming_typed c.args.row.now x p)

pub returns : goal.returns
returns c =
    let typed = c.is_naming_row.ensures.0 c.if-not-is_naming_row.false in
    let z0 : to_z w64 (of_z w64 c.in_ok-number_at.field-0) ≡ c.in_ok-number_at.field-0 = search rules in
    let z1 : to_z w64 (of_z w64 c.in_ok-number_at-2.field-0) ≡ c.in_ok-number_at-2.field-0 = search rules in
    record {
      written = tt;
      values_are = rw (z0, z1) (two_are _ _ _ typed.0 c.in_ok-number_at.ensures c.in_ok-number_at-2.ensures);
    }
