use Rattle.std.proofs.Common.{rules, ◌≡◌, to_z, of_z, w64}
use Rattle.space_rows.proofs.ReadSoFar.{not_so}
use Rattle.space_sql_select.proofs.Columns.{six_are}
use Rattle.space_sql_select.proofs.TypedRows.{cell_typed, written_text}
use Rattle.space_sql_select.proofs.rows.cell_row.Goals as goal

pub returns-then-not-is_cell_row : goal.returns-then-not-is_cell_row
returns-then-not-is_cell_row c = λ x p. not_so _ _ c.is_cell_row.ensures c.if-not-is_cell_row.true (cell_typed c.args.row.now x p)

pub returns : goal.returns
returns c =
    let typed = c.is_cell_row.ensures.0 c.if-not-is_cell_row.false in
    let z0 : to_z w64 (of_z w64 c.in_ok-number_at.field-0) ≡ c.in_ok-number_at.field-0 = search rules in
    let z1 : to_z w64 (of_z w64 c.in_ok-number_at-2.field-0) ≡ c.in_ok-number_at-2.field-0 = search rules in
    let z2 : to_z w64 (of_z w64 c.in_ok-number_at-3.field-0) ≡ c.in_ok-number_at-3.field-0 = search rules in
    let z3 : to_z w64 (of_z w64 c.in_ok-number_at-4.field-0) ≡ c.in_ok-number_at-4.field-0 = search rules in
    let z4 : to_z w64 (of_z w64 c.in_ok-number_at-5.field-0) ≡ c.in_ok-number_at-5.field-0 = search rules in
    record {
      written = written_text _ _ typed.4 c.in_ok-text_at.ensures;
      values_are = rw (z0, z1, z2, z3, z4) (six_are _ _ _ _ _ _ _ typed.0 c.in_ok-number_at.ensures c.in_ok-number_at-2.ensures c.in_ok-number_at-3.ensures c.in_ok-text_at.ensures c.in_ok-number_at-4.ensures c.in_ok-number_at-5.ensures);
    }
