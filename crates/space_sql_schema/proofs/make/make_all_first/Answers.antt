use Rattle.sqlite.specs.Held.{state}
use Rattle.space_sql_schema.specs.declared.format.Format.TheVariants.{One}
use Rattle.space_sql_schema.specs.Tables.{no_schema, first_schema}
use Rattle.space_sql_schema.specs.Making.{IsBare, SpellsEmptyAs}
use Rattle.space_sql_schema.proofs.Steps.{leads_then}
use Rattle.space_sql_schema.proofs.make.make_all_first.Goals as goal

pub returns-clause-leads : goal.returns-clause-leads
returns-clause-leads g c =
    leads_then (IsBare no_schema) (IsBare first_schema) (SpellsEmptyAs One) (state g.S.Store c.args.tx.now.conn.now) (state g.S.Store c.make_first.new.tx.conn.now) (state g.S.Store c.add_old_row.new.tx.conn.now) _ _ _ c.in_ok-make_first.ensures.leads c.in_ok-add_old_row.ensures.leads
