use Rattle.std.proofs.Common.{ap, refl, []}
use Rattle.sqlite.specs.Held.{state}
use Rattle.space_sql_schema.specs.Tables.{schema_1, schema_2, entity}
use Rattle.space_sql_schema.proofs.Texts.{entity_text}
use Rattle.space_sql_schema.specs.Making.{IsBare}
use Rattle.space_sql_schema.proofs.Steps.{leads_on}
use Rattle.space_sql_schema.proofs.Means.{entity_made, entity_is}
use Rattle.space_sql_schema.proofs.Making.{makes}
use Rattle.space_sql_schema.proofs.make.make_entity.Goals as goal

pub returns-clause-leads : goal.returns-clause-leads
returns-clause-leads g c =
    let old = state g.S.Store c.args.tx.now.conn.now in
    let new = state g.S.Store c.execute.new.self.conn.now in
    leads_on old new entity_text _ c.execute.result _ _ (IsBare schema_1) (IsBare schema_2) c.execute.ensures.ended (λ off. ap (state g.S.Store) (c.execute.ensures.ended off).1) c.execute.ensures.runs c.execute.ensures.survives
    (makes schema_1 schema_2 (λ _. []) (entity 0) entity_text old new c.execute.result refl entity_made.0 entity_made.1 entity_made.2 entity_is entity_made.3 refl)
