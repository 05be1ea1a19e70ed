use Rattle.std.proofs.Common.{List, subst}
use Rattle.sqlite.specs.Order.{Row}
use Rattle.space_rows.specs.declared.rows.EntityRow.{EntityRow}
use Rattle.space_rows.specs.declared.rows.VolumeRow.{VolumeRow}
use Rattle.space_rows.specs.declared.rows.CellRow.{CellRow}
use Rattle.space_sql_schema.specs.Spelling.{entity_values, volume_values, cell_values}
use Rattle.space_sql_select.specs.Rows.{AreRowsOf, IsWrittenEntity, IsWrittenVolume, IsWrittenCell, IsWrittenNaming, values_of_naming}
use Rattle.space_sql_select.specs.declared.sub_rows.NamingRow.{NamingRow}
use Rattle.space_sql_load.specs.Gathering.{parts_of}
use Rattle.space_sql_load.proofs.Listings.{no_rows, no_volumes, no_cells, no_namings, lists}
use Rattle.space_sql_load.proofs.entities.entities_in.Goals as goal

pub returns-in_default : goal.returns-in_default
returns-in_default c =
    no_rows c.args.serial c.args.numbers.now c.args.tables.now
    (subst (λ (l : List Row). (xs : List EntityRow) → ¬ AreRowsOf entity_values IsWrittenEntity l xs) c.as_slice.ensures.value (rw c.in_default.is at c.in_ok-rows.ensures))

pub returns-in_default-2 : goal.returns-in_default-2
returns-in_default-2 c =
    no_volumes c.args.serial c.args.numbers.now c.args.tables.now
    (subst (λ (l : List Row). (xs : List VolumeRow) → ¬ AreRowsOf volume_values IsWrittenVolume l xs) c.as_slice-2.ensures.value (rw c.in_default-2.is at c.in_ok-volumes.ensures))

pub returns-in_default-3 : goal.returns-in_default-3
returns-in_default-3 c =
    no_cells c.args.serial c.args.numbers.now c.args.tables.now
    (subst (λ (l : List Row). (xs : List CellRow) → ¬ AreRowsOf cell_values IsWrittenCell l xs) c.as_slice-3.ensures.value (rw c.in_default-3.is at c.in_ok-cells.ensures))

pub returns-in_default-4 : goal.returns-in_default-4
returns-in_default-4 c =
    no_namings c.args.serial c.args.numbers.now c.args.tables.now
    (subst (λ (l : List Row). (xs : List NamingRow) → ¬ AreRowsOf values_of_naming IsWrittenNaming l xs) c.as_slice-4.ensures.value (rw c.in_default-4.is at c.in_ok-namings.ensures))

pub returns : goal.returns
returns c =
    lists c.args.serial c.args.numbers.now c.args.tables.now c.in-Some.rows.items (parts_of c.in-Some-2.volumes.items c.in-Some-3.cells.items c.in-Some-4.namings.items) c.in_ok-gather_entities.field-0
    (subst (λ (l : List Row). AreRowsOf entity_values IsWrittenEntity l c.in-Some.rows.items) c.as_slice.ensures.value (rw c.in-Some.is at c.in_ok-rows.ensures))
    (subst (λ (l : List Row). AreRowsOf volume_values IsWrittenVolume l c.in-Some-2.volumes.items) c.as_slice-2.ensures.value (rw c.in-Some-2.is at c.in_ok-volumes.ensures))
    (subst (λ (l : List Row). AreRowsOf cell_values IsWrittenCell l c.in-Some-3.cells.items) c.as_slice-3.ensures.value (rw c.in-Some-3.is at c.in_ok-cells.ensures))
    (subst (λ (l : List Row). AreRowsOf values_of_naming IsWrittenNaming l c.in-Some-4.namings.items) c.as_slice-4.ensures.value (rw c.in-Some-4.is at c.in_ok-namings.ensures))
    (rw (c.as_slice-5.ensures.value, c.as_slice-6.ensures.value, c.as_slice-7.ensures.value, c.as_slice-8.ensures.value) at c.in_ok-gather_entities.ensures)
