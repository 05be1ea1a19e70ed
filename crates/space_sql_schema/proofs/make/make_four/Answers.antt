use Rattle.sqlite.specs.Held.{state}
use Rattle.space_sql_schema.specs.Tables.{no_schema, schema_2, schema_4}
use Rattle.space_sql_schema.specs.Making.{IsBare}
use Rattle.space_sql_schema.proofs.Steps.{leads_then}
use Rattle.space_sql_schema.proofs.make.make_four.Goals as goal

pub returns-clause-leads : goal.returns-clause-leads
returns-clause-leads g c =
    leads_then (IsBare no_schema) (IsBare schema_2) (IsBare schema_4) (state g.S.Store c.args.tx.now.conn.now) (state g.S.Store c.make_heads.new.tx.conn.now) (state g.S.Store c.make_extents.new.tx.conn.now) _ _ _ c.in_ok-make_heads.ensures.leads c.in_ok-make_extents.ensures.leads
