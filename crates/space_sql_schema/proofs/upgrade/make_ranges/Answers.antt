use Rattle.sqlite.specs.Held.{state}
use Rattle.space_sql_schema.specs.Tables.{schema_8, schema_9, unindexed_schema}
use Rattle.space_sql_schema.specs.Making.{AddsTables}
use Rattle.space_sql_schema.proofs.Steps.{steps_then}
use Rattle.space_sql_schema.proofs.upgrade.make_ranges.Goals as goal

pub returns-clause-adds : goal.returns-clause-adds
returns-clause-adds g c =
    steps_then (AddsTables schema_8 schema_9) (AddsTables schema_9 unindexed_schema) (AddsTables schema_8 unindexed_schema) (state g.S.Store c.args.tx.now.conn.now) (state g.S.Store c.make_range.new.tx.conn.now) (state g.S.Store c.make_subscription_range.new.tx.conn.now) _ _ _ (λ first then trees has. then trees (first trees has)) c.in_ok-make_range.ensures.adds c.in_ok-make_subscription_range.ensures.adds
