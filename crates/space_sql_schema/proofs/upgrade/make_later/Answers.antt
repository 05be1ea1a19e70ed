use Rattle.sqlite.specs.Held.{state}
use Rattle.space_sql_schema.specs.Tables.{schema_5, unindexed_schema}
use Rattle.space_sql_schema.specs.Making.{AddsIndex, AddsRest, AddsTables, first_rows}
use Rattle.space_sql_schema.proofs.Steps.{steps_then}
use Rattle.space_sql_schema.proofs.upgrade.make_later.Goals as goal

pub returns-clause-adds : goal.returns-clause-adds
returns-clause-adds g c =
    steps_then (AddsTables schema_5 unindexed_schema) AddsIndex (AddsRest schema_5) (state g.S.Store c.args.tx.now.conn.now) (state g.S.Store c.make_unindexed.new.tx.conn.now) (state g.S.Store c.add_index.new.tx.conn.now) _ _ _ (λ first then trees has. then (first_rows trees) (first trees has)) c.in_ok-make_unindexed.ensures.adds c.in_ok-add_index.ensures.adds
