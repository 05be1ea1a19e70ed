use Rattle.sqlite.specs.Held.{state}
use Rattle.space_sql_schema.specs.Tables.{schema_5, schema_8, unindexed_schema}
use Rattle.space_sql_schema.specs.Making.{AddsTables}
use Rattle.space_sql_schema.proofs.Steps.{steps_then}
use Rattle.space_sql_schema.proofs.upgrade.make_unindexed.Goals as goal

pub returns-clause-adds : goal.returns-clause-adds
returns-clause-adds g c =
    steps_then (AddsTables schema_5 schema_8) (AddsTables schema_8 unindexed_schema) (AddsTables schema_5 unindexed_schema) (state g.S.Store c.args.tx.now.conn.now) (state g.S.Store c.make_others.new.tx.conn.now) (state g.S.Store c.make_ranges.new.tx.conn.now) _ _ _ (λ first then trees has. then trees (first trees has)) c.in_ok-make_others.ensures.adds c.in_ok-make_ranges.ensures.adds
