use Rattle.sqlite.specs.Held.{state}
use Rattle.space_sql_schema.specs.Tables.{no_schema, schema_1, schema_2}
use Rattle.space_sql_schema.specs.Making.{IsBare}
use Rattle.space_sql_schema.proofs.Steps.{leads_then}
use Rattle.space_sql_schema.proofs.make.make_heads.Goals as goal

pub returns-clause-leads : goal.returns-clause-leads
returns-clause-leads g c =
    leads_then (IsBare no_schema) (IsBare schema_1) (IsBare schema_2) (state g.S.Store c.args.tx.now.conn.now) (state g.S.Store c.make_meta.new.tx.conn.now) (state g.S.Store c.make_entity.new.tx.conn.now) _ _ _ c.in_ok-make_meta.ensures.leads c.in_ok-make_entity.ensures.leads
