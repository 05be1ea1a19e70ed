use Rattle.std.proofs.Common.{ap, refl, []}
use Rattle.sqlite.specs.Held.{state}
use Rattle.space_sql_schema.specs.Tables.{no_schema, schema_1, meta}
use Rattle.space_sql_schema.proofs.Texts.{meta_text}
use Rattle.space_sql_schema.specs.Making.{IsBare}
use Rattle.space_sql_schema.proofs.Steps.{leads_on}
use Rattle.space_sql_schema.proofs.Means.{meta_made, meta_is}
use Rattle.space_sql_schema.proofs.Making.{makes}
use Rattle.space_sql_schema.proofs.make.make_meta.Goals as goal

pub returns-clause-leads : goal.returns-clause-leads
returns-clause-leads g c =
    let old = state g.S.Store c.args.tx.now.conn.now in
    let new = state g.S.Store c.execute.new.self.conn.now in
    leads_on old new meta_text _ c.execute.result _ _ (IsBare no_schema) (IsBare schema_1) c.execute.ensures.ended (λ off. ap (state g.S.Store) (c.execute.ensures.ended off).1) c.execute.ensures.runs c.execute.ensures.survives
    (makes no_schema schema_1 (λ _. []) (meta 0) meta_text old new c.execute.result refl meta_made.0 meta_made.1 meta_made.2 meta_is meta_made.3 refl)
