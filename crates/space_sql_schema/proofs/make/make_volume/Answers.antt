use Rattle.std.proofs.Common.{ap, refl, []}
use Rattle.sqlite.specs.Held.{state}
use Rattle.space_sql_schema.specs.Tables.{schema_2, schema_3, volume}
use Rattle.space_sql_schema.proofs.Texts.{volume_text}
use Rattle.space_sql_schema.specs.Making.{IsBare}
use Rattle.space_sql_schema.proofs.Steps.{leads_on}
use Rattle.space_sql_schema.proofs.Means.{volume_made, volume_is}
use Rattle.space_sql_schema.proofs.Making.{makes}
use Rattle.space_sql_schema.proofs.make.make_volume.Goals as goal

pub returns-clause-leads : goal.returns-clause-leads
returns-clause-leads g c =
    let old = state g.S.Store c.args.tx.now.conn.now in
    let new = state g.S.Store c.execute.new.self.conn.now in
    leads_on old new volume_text _ c.execute.result _ _ (IsBare schema_2) (IsBare schema_3) c.execute.ensures.ended (λ off. ap (state g.S.Store) (c.execute.ensures.ended off).1) c.execute.ensures.runs c.execute.ensures.survives
    (makes schema_2 schema_3 (λ _. []) (volume 0) volume_text old new c.execute.result refl volume_made.0 volume_made.1 volume_made.2 volume_is volume_made.3 refl)
