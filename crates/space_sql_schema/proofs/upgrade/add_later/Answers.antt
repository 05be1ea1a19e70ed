use Rattle.sqlite.specs.Held.{state}
use Rattle.space_sql_schema.specs.Tables.{first_schema, schema_5, second_schema}
use Rattle.space_sql_schema.specs.Making.{AddsRest, AddsTables}
use Rattle.space_sql_schema.proofs.Steps.{steps_then}
use Rattle.space_sql_schema.proofs.upgrade.add_later.Goals as goal

pub returns-clause-adds : goal.returns-clause-adds
returns-clause-adds g c =
    steps_then (AddsTables first_schema schema_5) (AddsRest schema_5) (AddsTables first_schema second_schema) (state g.S.Store c.args.tx.now.conn.now) (state g.S.Store c.drop_range.new.tx.conn.now) (state g.S.Store c.make_later.new.tx.conn.now) _ _ _ (λ first then trees has. (then trees (first trees has)).0) c.in_ok-drop_range.ensures.adds c.in_ok-make_later.ensures.adds
