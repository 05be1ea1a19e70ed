use Rattle.std.proofs.Common.{drop}
use Rattle.space_rows.proofs.ReadSoFar.{ReadSoFar}
use Rattle.space_sql_schema.specs.Spelling.{cell_values}
use Rattle.space_sql_select.specs.Rows.{IsWrittenCell, AreRowsOf}
use Rattle.space_sql_select.proofs.rows.cell_rows.Given as goal

abbrev pub invariant-loop-row : goal.invariant-loop-row
invariant-loop-row l = ReadSoFar (AreRowsOf cell_values IsWrittenCell l.rows) (AreRowsOf cell_values IsWrittenCell (drop l.row-index l.rows)) l.out.items
