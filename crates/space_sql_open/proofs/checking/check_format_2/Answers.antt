use Rattle.std.proofs.Common.{◌≡◌}
use Rattle.sqlite.specs.Held.{state}
use Rattle.space_sql_schema.specs.Tables.{dss_schema}
use Rattle.space_sql_check.specs.Checking.{JudgesAirspace}
use Rattle.space_sql_open.proofs.CheckedTables.{given, told_open, told_rest}
use Rattle.space_sql_open.proofs.checking.check_format_2.Goals as goal

pub returns-clause-examines : goal.returns-clause-examines
returns-clause-examines g c = λ clean schema.
    let old = (state g.S.Store c.args.conn.now).now in
    c.checked_or_fault.ensures.examines old (given (JudgesAirspace old) (old.schema ≡ dss_schema) c.check_airspace-check.result (c.check_airspace-check.ensures.reads.answer clean) schema)

pub returns-clause-open : goal.returns-clause-open
returns-clause-open g c = λ clean. told_open c.check_airspace-check.result c.checked_or_fault.result _ c.checked_or_fault.ensures.failed (c.check_airspace-check.ensures.reads.is_open clean)

pub returns-clause-at_rest : goal.returns-clause-at_rest
returns-clause-at_rest g c = λ clean schema other. told_rest c.check_airspace-check.result c.checked_or_fault.result _ c.checked_or_fault.ensures.failed (c.check_airspace-check.ensures.reads.rests clean) other schema
