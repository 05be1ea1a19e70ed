use Rattle.std.proofs.Common.{◌∷◌, [], refl, ap, sym, ◌∙◌}
use Rattle.sqlite.specs.Order.{column}
use Rattle.space_rows.proofs.ReadSoFar.{not_so}
use Rattle.space_sql_select.proofs.Columns.{three_are}
use Rattle.space_sql_select.proofs.meta.meta_of_row.Goals as goal

pub returns-then-not-has_number : goal.returns-then-not-has_number
returns-then-not-has_number c = record {
  one = column c.args.row.now 0;
  format = column c.args.row.now 1;
  serial = column c.args.row.now 2;
  only = ap (λ r. r ∷ []) (three_are c.args.row.now _ _ _ (sym c.column_count.ensures ∙ c.if-column_count-ne3.false) refl refl refl);
  not_one = not_so _ _ c.has_number.ensures c.if-has_number.false;
  not_two = not_so _ _ c.has_number-2.ensures c.if-not-has_number.true;
}
