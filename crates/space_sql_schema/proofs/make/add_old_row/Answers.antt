use Rattle.std.proofs.Common.{ap}
use Rattle.sqlite.specs.Held.{state}
use Rattle.space_sql_schema.specs.declared.format.Format.TheVariants.{One}
use Rattle.space_sql_schema.specs.Tables.{first_schema}
use Rattle.space_sql_schema.proofs.Texts.{old_row_text}
use Rattle.space_sql_schema.specs.Making.{IsBare, SpellsEmptyAs}
use Rattle.space_sql_schema.proofs.Steps.{leads_on}
use Rattle.space_sql_schema.proofs.Making.{starts_first}
use Rattle.space_sql_schema.proofs.make.add_old_row.Goals as goal

pub returns-clause-leads : goal.returns-clause-leads
returns-clause-leads g c =
    let old = state g.S.Store c.args.tx.now.conn.now in
    let new = state g.S.Store c.execute.new.self.conn.now in
    leads_on old new old_row_text _ c.execute.result _ _ (IsBare first_schema) (SpellsEmptyAs One) c.execute.ensures.ended (λ off. ap (state g.S.Store) (c.execute.ensures.ended off).1) c.execute.ensures.runs c.execute.ensures.survives
    (starts_first old new c.execute.result)
