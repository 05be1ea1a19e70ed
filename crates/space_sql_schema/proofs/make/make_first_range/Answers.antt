use Rattle.std.proofs.Common.{ap, refl, []}
use Rattle.sqlite.specs.Held.{state}
use Rattle.space_sql_schema.specs.Tables.{first_schema, schema_5, cell, cell_range}
use Rattle.space_sql_schema.proofs.Texts.{range_text}
use Rattle.space_sql_schema.specs.Making.{IsBare}
use Rattle.space_sql_schema.proofs.Steps.{leads_on}
use Rattle.space_sql_schema.proofs.Means.{first_range_made, index_is}
use Rattle.space_sql_schema.proofs.Making.{makes_index}
use Rattle.space_sql_schema.proofs.make.make_first_range.Goals as goal

pub returns-clause-leads : goal.returns-clause-leads
returns-clause-leads g c =
    let old = state g.S.Store c.args.tx.now.conn.now in
    let new = state g.S.Store c.execute.new.self.conn.now in
    leads_on old new range_text _ c.execute.result _ _ (IsBare schema_5) (IsBare first_schema) c.execute.ensures.ended (λ off. ap (state g.S.Store) (c.execute.ensures.ended off).1) c.execute.ensures.runs c.execute.ensures.survives
    (makes_index schema_5 first_schema (λ _. []) (cell 5) 3 (cell_range 0 5) range_text old new c.execute.result first_range_made.0 first_range_made.1 first_range_made.2 refl index_is first_range_made.3 refl)
