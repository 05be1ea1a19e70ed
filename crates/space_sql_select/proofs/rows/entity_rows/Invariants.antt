use Rattle.std.proofs.Common.{drop}
use Rattle.space_rows.proofs.ReadSoFar.{ReadSoFar}
use Rattle.space_sql_schema.specs.Spelling.{entity_values}
use Rattle.space_sql_select.specs.Rows.{IsWrittenEntity, AreRowsOf}
use Rattle.space_sql_select.proofs.rows.entity_rows.Given as goal

abbrev pub invariant-loop-row : goal.invariant-loop-row
invariant-loop-row l = ReadSoFar (AreRowsOf entity_values IsWrittenEntity l.rows) (AreRowsOf entity_values IsWrittenEntity (drop l.row-index l.rows)) l.out.items
