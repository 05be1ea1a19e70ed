use Rattle.sqlite.specs.Held.{state}
use Rattle.space_sql_schema.specs.Tables.{no_schema, schema_5, first_schema}
use Rattle.space_sql_schema.specs.Making.{IsBare}
use Rattle.space_sql_schema.proofs.Steps.{leads_then}
use Rattle.space_sql_schema.proofs.make.make_first.Goals as goal

pub returns-clause-leads : goal.returns-clause-leads
returns-clause-leads g c =
    leads_then (IsBare no_schema) (IsBare schema_5) (IsBare first_schema) (state g.S.Store c.args.tx.now.conn.now) (state g.S.Store c.make_five.new.tx.conn.now) (state g.S.Store c.make_first_range.new.tx.conn.now) _ _ _ c.in_ok-make_five.ensures.leads c.in_ok-make_first_range.ensures.leads
