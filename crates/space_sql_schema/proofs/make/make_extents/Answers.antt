use Rattle.sqlite.specs.Held.{state}
use Rattle.space_sql_schema.specs.Tables.{schema_2, schema_3, schema_4}
use Rattle.space_sql_schema.specs.Making.{IsBare}
use Rattle.space_sql_schema.proofs.Steps.{leads_then}
use Rattle.space_sql_schema.proofs.make.make_extents.Goals as goal

pub returns-clause-leads : goal.returns-clause-leads
returns-clause-leads g c =
    leads_then (IsBare schema_2) (IsBare schema_3) (IsBare schema_4) (state g.S.Store c.args.tx.now.conn.now) (state g.S.Store c.make_volume.new.tx.conn.now) (state g.S.Store c.make_cell.new.tx.conn.now) _ _ _ c.in_ok-make_volume.ensures.leads c.in_ok-make_cell.ensures.leads
