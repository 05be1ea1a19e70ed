use Rattle.sqlite.specs.Held.{state}
use Rattle.space_sql_schema.specs.Tables.{no_schema, dss_schema}
use Rattle.space_sql_schema.specs.Making.{IsBare, IsMade}
use Rattle.space_sql_schema.proofs.Steps.{leads_then}
use Rattle.space_sql_schema.proofs.make.make_all.Goals as goal

pub returns-clause-leads : goal.returns-clause-leads
returns-clause-leads g c =
    leads_then (IsBare no_schema) (IsBare dss_schema) IsMade (state g.S.Store c.args.tx.now.conn.now) (state g.S.Store c.make_both.new.tx.conn.now) (state g.S.Store c.add_first_row.new.tx.conn.now) _ _ _ c.in_ok-make_both.ensures.leads c.in_ok-add_first_row.ensures.leads
