use Rattle.std.proofs.Common.{◌≡◌, pos, take}
use Rattle.std.specs.List.{AllByRecursion}
use Rattle.space_rows.specs.declared.rows.CellRow.{CellRow}
use Rattle.space_rows.proofs.cells.count_of.Given as goal

abbrev pub invariant-loop-i : goal.invariant-loop-i
invariant-loop-i l = AllByRecursion (λ (r : CellRow). r.volume ≡ pos l.volume) (take l.i l.rows)
