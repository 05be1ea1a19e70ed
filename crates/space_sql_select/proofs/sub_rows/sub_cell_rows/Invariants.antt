use Rattle.std.proofs.Common.{drop}
use Rattle.space_rows.proofs.ReadSoFar.{ReadSoFar}
use Rattle.space_sql_schema.specs.Spelling.{sub_cell_values}
use Rattle.space_sql_select.specs.Rows.{IsWrittenSubCell, AreRowsOf}
use Rattle.space_sql_select.proofs.sub_rows.sub_cell_rows.Given as goal

abbrev pub invariant-loop-row : goal.invariant-loop-row
invariant-loop-row l = ReadSoFar (AreRowsOf sub_cell_values IsWrittenSubCell l.rows) (AreRowsOf sub_cell_values IsWrittenSubCell (drop l.row-index l.rows)) l.out.items
