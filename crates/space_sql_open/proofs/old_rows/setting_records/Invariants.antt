use Rattle.std.proofs.Common.{drop}
use Rattle.space_rows.proofs.ReadSoFar.{ReadSoFar}
use Rattle.space_sql_select.specs.Rows.{AreRowsOf}
use Rattle.space_sql_open.specs.OldRows.{IsWrittenRecord, record_values}
use Rattle.space_sql_open.proofs.old_rows.setting_records.Given as goal

abbrev pub invariant-loop-row : goal.invariant-loop-row
invariant-loop-row l = ReadSoFar (AreRowsOf record_values IsWrittenRecord l.rows) (AreRowsOf record_values IsWrittenRecord (drop l.row-index l.rows)) l.out.items
