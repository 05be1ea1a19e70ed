use Rattle.std.proofs.Common.{ap, refl}
use Rattle.sqlite.specs.Held.{state}
use Rattle.space_sql_schema.specs.Tables.{schema_5, schema_6, subscription}
use Rattle.space_sql_schema.proofs.Texts.{subscription_text}
use Rattle.space_sql_schema.specs.Making.{AddsTables, HasRows, first_rows}
use Rattle.space_sql_schema.proofs.Steps.{steps_by, of_all}
use Rattle.space_sql_schema.proofs.Means.{subscription_made, subscription_is}
use Rattle.space_sql_schema.proofs.Making.{makes}
use Rattle.space_sql_schema.proofs.upgrade.make_subscription.Goals as goal

pub returns-clause-adds : goal.returns-clause-adds
returns-clause-adds g c =
    let old = state g.S.Store c.args.tx.now.conn.now in
    let new = state g.S.Store c.execute.new.self.conn.now in
    steps_by old new subscription_text _ c.execute.result _ _ (AddsTables schema_5 schema_6) c.execute.ensures.ended (λ off. ap (state g.S.Store) (c.execute.ensures.ended off).1) c.execute.ensures.runs c.execute.ensures.survives
    (λ h. of_all c.execute.result (λ trees. HasRows schema_5 (first_rows trees) old.now) (λ trees. HasRows schema_6 (first_rows trees) new.now) (λ trees. makes schema_5 schema_6 (first_rows trees) (subscription 0) subscription_text old new c.execute.result refl subscription_made.0 subscription_made.1 subscription_made.2 subscription_is subscription_made.3 refl h))
