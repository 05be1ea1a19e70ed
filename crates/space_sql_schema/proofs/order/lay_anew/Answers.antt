use Rattle.sqlite.specs.Held.{state}
use Rattle.space_sql_schema.specs.Tables.{schema_4, old_first_schema}
use Rattle.space_sql_schema.specs.Making.{AddsToCells, KeepsTables, LaysAnew}
use Rattle.space_sql_schema.proofs.Steps.{steps_then}
use Rattle.space_sql_schema.proofs.order.lay_anew.Goals as goal

pub returns-clause-lays : goal.returns-clause-lays
returns-clause-lays g c =
    steps_then (KeepsTables old_first_schema schema_4) (AddsToCells) (LaysAnew) (state g.S.Store c.args.tx.now.conn.now) (state g.S.Store c.drop_middle.new.tx.conn.now) (state g.S.Store c.make_rest.new.tx.conn.now) _ _ _ (λ first then trees has. then trees (first trees has)) c.in_ok-drop_middle.ensures.keeps c.in_ok-make_rest.ensures.adds
