use Rattle.std.proofs.Common.{◌≡◌, take}
use Rattle.std.specs.List.{AllByRecursion}
use Rattle.space_sql_select.specs.declared.sub_rows.NamingRow.{NamingRow}
use Rattle.space_sql_load.proofs.naming.naming_count.Given as goal

abbrev pub invariant-loop-i : goal.invariant-loop-i
invariant-loop-i l = AllByRecursion (λ (r : NamingRow). r.entity ≡ l.num) (take l.i l.rows)
