use Rattle.std.proofs.Common.{ap, refl}
use Rattle.sqlite.specs.Held.{state}
use Rattle.space_sql_schema.specs.Tables.{old_schema_6, old_first_schema, subscription}
use Rattle.space_sql_schema.proofs.Texts.{drop_subscription_text}
use Rattle.space_sql_schema.specs.Making.{HasRows, KeepsTables}
use Rattle.space_sql_schema.proofs.Steps.{steps_by, of_all}
use Rattle.space_sql_schema.proofs.Means.{subscription_dropped, subscription_unacted}
use Rattle.space_sql_schema.proofs.Making.{drops_table}
use Rattle.space_sql_schema.proofs.order.drop_subscription.Goals as goal

pub returns-clause-keeps : goal.returns-clause-keeps
returns-clause-keeps g c =
    let old = state g.S.Store c.args.tx.now.conn.now in
    let new = state g.S.Store c.execute.new.self.conn.now in
    steps_by old new drop_subscription_text _ c.execute.result _ _ (KeepsTables old_schema_6 old_first_schema) c.execute.ensures.ended (λ off. ap (state g.S.Store) (c.execute.ensures.ended off).1) c.execute.ensures.runs c.execute.ensures.survives
    (λ h. of_all c.execute.result (λ trees. HasRows old_schema_6 trees old.now) (λ trees. HasRows old_first_schema trees new.now) (λ trees. drops_table old_schema_6 old_first_schema trees 5 (subscription 10) drop_subscription_text old new c.execute.result subscription_dropped.0 subscription_dropped.1 subscription_dropped.2 refl subscription_unacted refl subscription_dropped.3 (λ P p. (p.0, (p.1.0, (p.1.1.0, (p.1.1.1.0, (p.1.1.1.1.0, tt)))))) h))
