use Rattle.std.proofs.Common.{rules, ◌≡◌, to_z, of_z, w64}
use Rattle.space_rows.proofs.ReadSoFar.{not_so}
use Rattle.space_sql_select.proofs.Columns.{nine_are}
use Rattle.space_sql_select.proofs.TypedRows.{entity_typed, written_text}
use Rattle.space_sql_select.proofs.rows.entity_row.Goals as goal

pub returns-then-not-is_entity_row : goal.returns-then-not-is_entity_row
returns-then-not-is_entity_row c = λ x p. not_so _ _ c.is_entity_row.ensures c.if-not-is_entity_row.true (entity_typed c.args.row.now x p)

pub returns : goal.returns
returns c =
    let typed = c.is_entity_row.ensures.0 c.if-not-is_entity_row.false in
    let z0 : to_z w64 (of_z w64 c.in_ok-number_at.field-0) ≡ c.in_ok-number_at.field-0 = search rules in
    let z1 : to_z w64 (of_z w64 c.in_ok-number_at-2.field-0) ≡ c.in_ok-number_at-2.field-0 = search rules in
    let z2 : to_z w64 (of_z w64 c.in_ok-number_at-3.field-0) ≡ c.in_ok-number_at-3.field-0 = search rules in
    let z3 : to_z w64 (of_z w64 c.in_ok-number_at-4.field-0) ≡ c.in_ok-number_at-4.field-0 = search rules in
    let z4 : to_z w64 (of_z w64 c.in_ok-number_at-5.field-0) ≡ c.in_ok-number_at-5.field-0 = search rules in
    record {
      written = record { id = written_text _ _ typed.3 c.in_ok-text_at.ensures; manager = written_text _ _ typed.4 c.in_ok-text_at-2.ensures; ovn = written_text _ _ typed.8 c.in_ok-text_at-3.ensures; url = written_text _ _ typed.9 c.in_ok-text_at-4.ensures };
      values_are = rw (z0, z1, z2, z3, z4) (nine_are _ _ _ _ _ _ _ _ _ _ typed.0 c.in_ok-number_at.ensures c.in_ok-number_at-2.ensures c.in_ok-text_at.ensures c.in_ok-text_at-2.ensures c.in_ok-number_at-3.ensures c.in_ok-number_at-4.ensures c.in_ok-number_at-5.ensures c.in_ok-text_at-3.ensures c.in_ok-text_at-4.ensures);
    }
