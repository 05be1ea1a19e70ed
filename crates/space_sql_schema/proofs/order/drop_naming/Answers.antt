use Rattle.std.proofs.Common.{ap, refl}
use Rattle.sqlite.specs.Held.{state}
use Rattle.space_sql_schema.specs.Tables.{old_unindexed_schema, old_schema_7, naming}
use Rattle.space_sql_schema.proofs.Texts.{drop_naming_text}
use Rattle.space_sql_schema.specs.Making.{HasRows, KeepsTables}
use Rattle.space_sql_schema.proofs.Steps.{steps_by, of_all}
use Rattle.space_sql_schema.proofs.Means.{naming_dropped, naming_unacted}
use Rattle.space_sql_schema.proofs.Making.{drops_table}
use Rattle.space_sql_schema.proofs.order.drop_naming.Goals as goal

pub returns-clause-keeps : goal.returns-clause-keeps
returns-clause-keeps g c =
    let old = state g.S.Store c.args.tx.now.conn.now in
    let new = state g.S.Store c.execute.new.self.conn.now in
    steps_by old new drop_naming_text _ c.execute.result _ _ (KeepsTables old_unindexed_schema old_schema_7) c.execute.ensures.ended (λ off. ap (state g.S.Store) (c.execute.ensures.ended off).1) c.execute.ensures.runs c.execute.ensures.survives
    (λ h. of_all c.execute.result (λ trees. HasRows old_unindexed_schema trees old.now) (λ trees. HasRows old_schema_7 trees new.now) (λ trees. drops_table old_unindexed_schema old_schema_7 trees 7 (naming 15) drop_naming_text old new c.execute.result naming_dropped.0 naming_dropped.1 naming_dropped.2 refl naming_unacted refl naming_dropped.3 (λ P p. (p.0, (p.1.0, (p.1.1.0, (p.1.1.1.0, (p.1.1.1.1.0, (p.1.1.1.1.1.0, (p.1.1.1.1.1.1.0, tt)))))))) h))
