use Rattle.sqlite.specs.Held.{state}
use Rattle.space_sql_schema.specs.Tables.{old_unindexed_schema, old_schema_6, old_schema_7}
use Rattle.space_sql_schema.specs.Making.{KeepsTables}
use Rattle.space_sql_schema.proofs.Steps.{steps_then}
use Rattle.space_sql_schema.proofs.order.drop_references.Goals as goal

pub returns-clause-keeps : goal.returns-clause-keeps
returns-clause-keeps g c =
    steps_then (KeepsTables old_unindexed_schema old_schema_7) (KeepsTables old_schema_7 old_schema_6) (KeepsTables old_unindexed_schema old_schema_6) (state g.S.Store c.args.tx.now.conn.now) (state g.S.Store c.drop_naming.new.tx.conn.now) (state g.S.Store c.drop_subscription_cell.new.tx.conn.now) _ _ _ (λ first then trees has. then trees (first trees has)) c.in_ok-drop_naming.ensures.keeps c.in_ok-drop_subscription_cell.ensures.keeps
