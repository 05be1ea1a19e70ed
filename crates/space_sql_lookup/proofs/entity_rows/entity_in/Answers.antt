use Rattle.std.proofs.Common.{List, ◌∙◌, subst}
use Rattle.space_rows.specs.declared.rows.VolumeRow.{VolumeRow}
use Rattle.space_rows.specs.declared.rows.CellRow.{CellRow}
use Rattle.space_rows.specs.Rows.{SpellsEntity}
use Rattle.space_rows.proofs.OneEntity.{one_entity}
use Rattle.space_sql_schema.specs.Spelling.{volume_values, cell_values}
use Rattle.space_sql_schema.proofs.OneAirspace.{volume_of_values, volume_back, cell_of_values, cell_back}
use Rattle.space_sql_select.proofs.TypedRows.{one_typed}
use Rattle.space_sql_lookup.proofs.entity_rows.entity_in.Goals as goal

pub returns-in-Some-3 : goal.returns-in-Some-3
returns-in-Some-3 c = λ vs cs x p q s.
    let head = c.args.head.now in
    let named = c.args.own.now.named in
    let volumes = one_typed volume_values volume_of_values volume_back c.as_slice.result.now vs c.in-Some.volumes.items (c.as_slice.ensures.value ∙ p) (rw c.in-Some.is at c.in_ok-volumes.ensures).values_are in
    let cells = one_typed cell_values cell_of_values cell_back c.as_slice-2.result.now cs c.in-Some-2.cells.items (c.as_slice-2.ensures.value ∙ q) (rw c.in-Some-2.is at c.in_ok-cells.ensures).values_are in
    one_entity head c.in-Some.volumes.items c.in-Some-2.cells.items named c.in-Some-3.entity x
    (rw (c.as_slice-3.ensures.value, c.as_slice-4.ensures.value) at (rw c.in-Some-3.is at c.in_ok-entity.ensures))
    (subst (λ (l : List VolumeRow). SpellsEntity head l c.in-Some-2.cells.items named x) volumes (subst (λ (l : List CellRow). SpellsEntity head vs l named x) cells s))
