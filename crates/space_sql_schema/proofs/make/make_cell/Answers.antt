use Rattle.std.proofs.Common.{ap, refl, []}
use Rattle.sqlite.specs.Held.{state}
use Rattle.space_sql_schema.specs.Tables.{schema_3, schema_4, cell}
use Rattle.space_sql_schema.proofs.Texts.{cell_text}
use Rattle.space_sql_schema.specs.Making.{IsBare}
use Rattle.space_sql_schema.proofs.Steps.{leads_on}
use Rattle.space_sql_schema.proofs.Means.{cell_made, cell_is}
use Rattle.space_sql_schema.proofs.Making.{makes}
use Rattle.space_sql_schema.proofs.make.make_cell.Goals as goal

pub returns-clause-leads : goal.returns-clause-leads
returns-clause-leads g c =
    let old = state g.S.Store c.args.tx.now.conn.now in
    let new = state g.S.Store c.execute.new.self.conn.now in
    leads_on old new cell_text _ c.execute.result _ _ (IsBare schema_3) (IsBare schema_4) c.execute.ensures.ended (λ off. ap (state g.S.Store) (c.execute.ensures.ended off).1) c.execute.ensures.runs c.execute.ensures.survives
    (makes schema_3 schema_4 (λ _. []) (cell 0) cell_text old new c.execute.result refl cell_made.0 cell_made.1 cell_made.2 cell_is cell_made.3 refl)
