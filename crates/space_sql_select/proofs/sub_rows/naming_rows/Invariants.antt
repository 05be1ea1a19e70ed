use Rattle.std.proofs.Common.{drop}
use Rattle.space_rows.proofs.ReadSoFar.{ReadSoFar}
use Rattle.space_sql_select.specs.Rows.{IsWrittenNaming, AreRowsOf, values_of_naming}
use Rattle.space_sql_select.proofs.sub_rows.naming_rows.Given as goal

abbrev pub invariant-loop-row : goal.invariant-loop-row
invariant-loop-row l = ReadSoFar (AreRowsOf values_of_naming IsWrittenNaming l.rows) (AreRowsOf values_of_naming IsWrittenNaming (drop l.row-index l.rows)) l.out.items
