use Rattle.std.proofs.Common.{ap}
use Rattle.sqlite.specs.Held.{state}
use Rattle.space_sql_schema.specs.Tables.{second_schema}
use Rattle.space_sql_schema.proofs.Texts.{set_format_text}
use Rattle.space_sql_schema.specs.Making.{SetsFormat, HasRows, IsUpgraded, first_rows}
use Rattle.space_sql_schema.proofs.Steps.{steps_by, of_all}
use Rattle.space_sql_schema.proofs.Formats.{sets_format}
use Rattle.space_sql_schema.proofs.upgrade.set_format.Goals as goal

pub returns-clause-sets : goal.returns-clause-sets
returns-clause-sets g c =
    let old = state g.S.Store c.args.tx.now.conn.now in
    let new = state g.S.Store c.execute.new.self.conn.now in
    steps_by old new set_format_text _ c.execute.result _ _ SetsFormat c.execute.ensures.ended (λ off. ap (state g.S.Store) (c.execute.ensures.ended off).1) c.execute.ensures.runs c.execute.ensures.survives
    (λ h. of_all c.execute.result (λ trees. HasRows second_schema (first_rows trees) old.now) (λ trees. IsUpgraded trees new.now) (λ trees. sets_format trees old new c.execute.result h))
