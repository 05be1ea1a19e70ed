use Rattle.std.proofs.Common.{drop}
use Rattle.space_rows.proofs.ReadSoFar.{ReadSoFar}
use Rattle.space_sql_schema.specs.Spelling.{volume_values}
use Rattle.space_sql_select.specs.Rows.{IsWrittenVolume, AreRowsOf}
use Rattle.space_sql_select.proofs.rows.volume_rows.Given as goal

abbrev pub invariant-loop-row : goal.invariant-loop-row
invariant-loop-row l = ReadSoFar (AreRowsOf volume_values IsWrittenVolume l.rows) (AreRowsOf volume_values IsWrittenVolume (drop l.row-index l.rows)) l.out.items
