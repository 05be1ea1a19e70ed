use Rattle.std.proofs.Common.{List, subst}
use Rattle.sqlite.specs.Order.{Row}
use Rattle.space_rows.specs.declared.rows.SubRow.{SubRow}
use Rattle.space_rows.specs.declared.rows.SubCellRow.{SubCellRow}
use Rattle.space_sql_schema.specs.Spelling.{sub_values, sub_cell_values}
use Rattle.space_sql_select.specs.Rows.{AreRowsOf, IsWrittenSub, IsWrittenSubCell}
use Rattle.space_sql_load.proofs.Listings.{no_sub_rows, no_sub_cells, lists_subs, all_rise}
use Rattle.space_sql_load.proofs.subscriptions.subs_in.Goals as goal

pub returns-in_default-clause-lists : goal.returns-in_default-clause-lists
returns-in_default-clause-lists c =
    no_sub_rows c.args.serial c.args.tables.now
    (subst (λ (l : List Row). (xs : List SubRow) → ¬ AreRowsOf sub_values IsWrittenSub l xs) c.as_slice.ensures.value (rw c.in_default.is at c.in_ok-rows.ensures))

pub returns-in_default-2-clause-lists : goal.returns-in_default-2-clause-lists
returns-in_default-2-clause-lists c =
    no_sub_cells c.args.serial c.args.tables.now
    (subst (λ (l : List Row). (xs : List SubCellRow) → ¬ AreRowsOf sub_cell_values IsWrittenSubCell l xs) c.as_slice-2.ensures.value (rw c.in_default-2.is at c.in_ok-cells.ensures))

pub returns-clause-lists : goal.returns-clause-lists
returns-clause-lists c =
    lists_subs c.args.serial c.args.tables.now c.in-Some.rows.items c.in-Some-2.cells.items c.in_ok-gather_subs.field-0
    (subst (λ (l : List Row). AreRowsOf sub_values IsWrittenSub l c.in-Some.rows.items) c.as_slice.ensures.value (rw c.in-Some.is at c.in_ok-rows.ensures))
    (subst (λ (l : List Row). AreRowsOf sub_cell_values IsWrittenSubCell l c.in-Some-2.cells.items) c.as_slice-2.ensures.value (rw c.in-Some-2.is at c.in_ok-cells.ensures))
    (rw (c.as_slice-3.ensures.value, c.as_slice-4.ensures.value) at c.in_ok-gather_subs.ensures)

pub returns-clause-rise : goal.returns-clause-rise
returns-clause-rise c = all_rise c.args.serial c.in-Some.rows.items c.in-Some-2.cells.items c.in_ok-gather_subs.field-0 (rw (c.as_slice-3.ensures.value, c.as_slice-4.ensures.value) at c.in_ok-gather_subs.ensures)
