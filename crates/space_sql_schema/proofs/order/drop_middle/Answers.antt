use Rattle.sqlite.specs.Held.{state}
use Rattle.space_sql_schema.specs.Tables.{schema_4, old_first_schema, old_schema_4}
use Rattle.space_sql_schema.specs.Making.{KeepsTables}
use Rattle.space_sql_schema.proofs.Steps.{steps_then}
use Rattle.space_sql_schema.proofs.order.drop_middle.Goals as goal

pub returns-clause-keeps : goal.returns-clause-keeps
returns-clause-keeps g c =
    steps_then (KeepsTables old_first_schema old_schema_4) (KeepsTables old_schema_4 schema_4) (KeepsTables old_first_schema schema_4) (state g.S.Store c.args.tx.now.conn.now) (state g.S.Store c.drop_availability.new.tx.conn.now) (state g.S.Store c.drop_old_range.new.tx.conn.now) _ _ _ (λ first then trees has. then trees (first trees has)) c.in_ok-drop_availability.ensures.keeps c.in_ok-drop_old_range.ensures.keeps
