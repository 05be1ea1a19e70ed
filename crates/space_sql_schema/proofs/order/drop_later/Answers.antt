use Rattle.sqlite.specs.Held.{state}
use Rattle.space_sql_schema.specs.Tables.{old_first_schema, old_unindexed_schema, old_schema_6}
use Rattle.space_sql_schema.specs.Making.{KeepsTables}
use Rattle.space_sql_schema.proofs.Steps.{steps_then}
use Rattle.space_sql_schema.proofs.order.drop_later.Goals as goal

pub returns-clause-keeps : goal.returns-clause-keeps
returns-clause-keeps g c =
    steps_then (KeepsTables old_unindexed_schema old_schema_6) (KeepsTables old_schema_6 old_first_schema) (KeepsTables old_unindexed_schema old_first_schema) (state g.S.Store c.args.tx.now.conn.now) (state g.S.Store c.drop_references.new.tx.conn.now) (state g.S.Store c.drop_subscription.new.tx.conn.now) _ _ _ (λ first then trees has. then trees (first trees has)) c.in_ok-drop_references.ensures.keeps c.in_ok-drop_subscription.ensures.keeps
