use Rattle.std.proofs.Common.{drop}
use Rattle.space_rows.proofs.ReadSoFar.{ReadSoFar}
use Rattle.space_sql_select.specs.Rows.{IsWrittenNumber, AreRowsOf, number_values}
use Rattle.space_sql_select.proofs.rows.number_rows.Given as goal

abbrev pub invariant-loop-row : goal.invariant-loop-row
invariant-loop-row l = ReadSoFar (AreRowsOf number_values IsWrittenNumber l.rows) (AreRowsOf number_values IsWrittenNumber (drop l.row-index l.rows)) l.out.items
