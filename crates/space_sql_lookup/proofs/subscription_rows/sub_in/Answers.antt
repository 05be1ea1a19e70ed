use Rattle.std.proofs.Common.{List, subst}
use Rattle.space_rows.specs.declared.rows.SubCellRow.{SubCellRow}
use Rattle.space_rows.specs.Subs.{SpellsSub}
use Rattle.space_rows.proofs.SubRows.{one_sub}
use Rattle.space_sql_schema.specs.Spelling.{sub_cell_values}
use Rattle.space_sql_schema.proofs.OneAirspace.{sub_cell_of_values, sub_cell_back}
use Rattle.space_sql_select.proofs.TypedRows.{one_typed}
use Rattle.space_sql_lookup.proofs.subscription_rows.sub_in.Goals as goal

pub returns-in-Some-2 : goal.returns-in-Some-2
returns-in-Some-2 c = λ cs x p s.
    let head = c.args.head.now in
    let cells = one_typed sub_cell_values sub_cell_of_values sub_cell_back c.args.cells.now cs c.in-Some.cells.items p (rw c.in-Some.is at c.in_ok-cells.ensures).values_are in
    one_sub head c.in-Some.cells.items c.in-Some-2.sub x
    (rw (c.as_slice.ensures.value) at (rw c.in-Some-2.is at c.in_ok-sub.ensures))
    (subst (λ (l : List SubCellRow). SpellsSub head l x) cells s)
