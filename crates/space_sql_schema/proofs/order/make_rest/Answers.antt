use Rattle.sqlite.specs.Held.{state}
use Rattle.space_sql_schema.specs.Tables.{schema_4, schema_5}
use Rattle.space_sql_schema.specs.Making.{AddsRest, AddsToCells, AddsToFour, four_rows}
use Rattle.space_sql_schema.proofs.Steps.{steps_then}
use Rattle.space_sql_schema.proofs.order.make_rest.Goals as goal

pub returns-clause-adds : goal.returns-clause-adds
returns-clause-adds g c =
    steps_then (AddsToFour schema_4 schema_5) (AddsRest schema_5) (AddsToCells) (state g.S.Store c.args.tx.now.conn.now) (state g.S.Store c.make_availability.new.tx.conn.now) (state g.S.Store c.make_later.new.tx.conn.now) _ _ _ (λ first then trees has. then (four_rows trees) (first trees has)) c.in_ok-make_availability.ensures.adds c.in_ok-make_later.ensures.adds
