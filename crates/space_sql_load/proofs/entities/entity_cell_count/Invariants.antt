use Rattle.std.proofs.Common.{◌≡◌, take}
use Rattle.std.specs.List.{AllByRecursion}
use Rattle.space_rows.specs.declared.rows.CellRow.{CellRow}
use Rattle.space_sql_load.proofs.entities.entity_cell_count.Given as goal

abbrev pub invariant-loop-i : goal.invariant-loop-i
invariant-loop-i l = AllByRecursion (λ (r : CellRow). r.entity ≡ l.num) (take l.i l.rows)
