use Rattle.std.proofs.Common.{ap, refl}
use Rattle.sqlite.specs.Held.{state}
use Rattle.space_sql_schema.specs.Tables.{schema_6, schema_7, subscription_cell}
use Rattle.space_sql_schema.proofs.Texts.{subscription_cell_text}
use Rattle.space_sql_schema.specs.Making.{AddsTables, HasRows, first_rows}
use Rattle.space_sql_schema.proofs.Steps.{steps_by, of_all}
use Rattle.space_sql_schema.proofs.Means.{subscription_cell_made, subscription_cell_is}
use Rattle.space_sql_schema.proofs.Making.{makes}
use Rattle.space_sql_schema.proofs.upgrade.make_subscription_cell.Goals as goal

pub returns-clause-adds : goal.returns-clause-adds
returns-clause-adds g c =
    let old = state g.S.Store c.args.tx.now.conn.now in
    let new = state g.S.Store c.execute.new.self.conn.now in
    steps_by old new subscription_cell_text _ c.execute.result _ _ (AddsTables schema_6 schema_7) c.execute.ensures.ended (λ off. ap (state g.S.Store) (c.execute.ensures.ended off).1) c.execute.ensures.runs c.execute.ensures.survives
    (λ h. of_all c.execute.result (λ trees. HasRows schema_6 (first_rows trees) old.now) (λ trees. HasRows schema_7 (first_rows trees) new.now) (λ trees. makes schema_6 schema_7 (first_rows trees) (subscription_cell 0) subscription_cell_text old new c.execute.result refl subscription_cell_made.0 subscription_cell_made.1 subscription_cell_made.2 subscription_cell_is subscription_cell_made.3 refl h))
