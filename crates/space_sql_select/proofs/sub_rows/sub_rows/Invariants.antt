use Rattle.std.proofs.Common.{drop}
use Rattle.space_rows.proofs.ReadSoFar.{ReadSoFar}
use Rattle.space_sql_schema.specs.Spelling.{sub_values}
use Rattle.space_sql_select.specs.Rows.{IsWrittenSub, AreRowsOf}
use Rattle.space_sql_select.proofs.sub_rows.sub_rows.Given as goal

abbrev pub invariant-loop-row : goal.invariant-loop-row
invariant-loop-row l = ReadSoFar (AreRowsOf sub_values IsWrittenSub l.rows) (AreRowsOf sub_values IsWrittenSub (drop l.row-index l.rows)) l.out.items
