use Rattle.sqlite.specs.Held.{state}
use Rattle.space_sql_schema.specs.Tables.{schema_5, schema_6, schema_7}
use Rattle.space_sql_schema.specs.Making.{AddsTables}
use Rattle.space_sql_schema.proofs.Steps.{steps_then}
use Rattle.space_sql_schema.proofs.upgrade.make_subscriptions.Goals as goal

pub returns-clause-adds : goal.returns-clause-adds
returns-clause-adds g c =
    steps_then (AddsTables schema_5 schema_6) (AddsTables schema_6 schema_7) (AddsTables schema_5 schema_7) (state g.S.Store c.args.tx.now.conn.now) (state g.S.Store c.make_subscription.new.tx.conn.now) (state g.S.Store c.make_subscription_cell.new.tx.conn.now) _ _ _ (λ first then trees has. then trees (first trees has)) c.in_ok-make_subscription.ensures.adds c.in_ok-make_subscription_cell.ensures.adds
