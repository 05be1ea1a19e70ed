use Rattle.std.proofs.Common.{rules, ◌≡◌, to_z, of_z, w64}
use Rattle.space_rows.proofs.ReadSoFar.{not_so}
use Rattle.space_sql_select.proofs.Columns.{thirteen_are}
use Rattle.space_sql_select.proofs.TypedRows.{sub_typed, written_text}
use Rattle.space_sql_select.proofs.sub_rows.sub_row.Goals as goal

pub returns-then-not-is_sub_row : goal.returns-then-not-is_sub_row
returns-then-not-is_sub_row c = λ x p. not_so _ _ c.is_sub_row.ensures c.if-not-is_sub_row.true (sub_typed c.args.row.now x p)

pub returns : goal.returns
returns c =
    let typed = c.is_sub_row.ensures.0 c.if-not-is_sub_row.false in
    let z0 : to_z w64 (of_z w64 c.in_ok-number_at.field-0) ≡ c.in_ok-number_at.field-0 = search rules in
    let z1 : to_z w64 (of_z w64 c.in_ok-number_at-2.field-0) ≡ c.in_ok-number_at-2.field-0 = search rules in
    let z2 : to_z w64 (of_z w64 c.in_ok-number_at-3.field-0) ≡ c.in_ok-number_at-3.field-0 = search rules in
    let z3 : to_z w64 (of_z w64 c.in_ok-number_at-4.field-0) ≡ c.in_ok-number_at-4.field-0 = search rules in
    let z4 : to_z w64 (of_z w64 c.in_ok-number_at-5.field-0) ≡ c.in_ok-number_at-5.field-0 = search rules in
    let z5 : to_z w64 (of_z w64 c.in_ok-number_at-6.field-0) ≡ c.in_ok-number_at-6.field-0 = search rules in
    let z6 : to_z w64 (of_z w64 c.in_ok-number_at-7.field-0) ≡ c.in_ok-number_at-7.field-0 = search rules in
    let z7 : to_z w64 (of_z w64 c.in_ok-number_at-8.field-0) ≡ c.in_ok-number_at-8.field-0 = search rules in
    let z8 : to_z w64 (of_z w64 c.in_ok-number_at-9.field-0) ≡ c.in_ok-number_at-9.field-0 = search rules in
    record {
      written = record { id = written_text _ _ typed.1.0 c.in_ok-text_at.ensures; manager = written_text _ _ typed.1.1 c.in_ok-text_at-2.ensures; version = written_text _ _ typed.1.2 c.in_ok-text_at-3.ensures; url = written_text _ _ typed.1.3 c.in_ok-text_at-4.ensures };
      values_are = rw (z0, z1, z2, z3, z4, z5, z6, z7, z8) (thirteen_are _ _ _ _ _ _ _ _ _ _ _ _ _ _ typed.0 c.in_ok-number_at.ensures c.in_ok-text_at.ensures c.in_ok-text_at-2.ensures c.in_ok-number_at-2.ensures c.in_ok-text_at-3.ensures c.in_ok-number_at-3.ensures c.in_ok-text_at-4.ensures c.in_ok-number_at-4.ensures c.in_ok-number_at-5.ensures c.in_ok-number_at-6.ensures c.in_ok-number_at-7.ensures c.in_ok-number_at-8.ensures c.in_ok-number_at-9.ensures);
    }
