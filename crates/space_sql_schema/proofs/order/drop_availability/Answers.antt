use Rattle.std.proofs.Common.{ap, refl}
use Rattle.sqlite.specs.Held.{state}
use Rattle.space_sql_schema.specs.Tables.{old_first_schema, old_schema_4, availability}
use Rattle.space_sql_schema.proofs.Texts.{drop_availability_text}
use Rattle.space_sql_schema.specs.Making.{HasRows, KeepsTables}
use Rattle.space_sql_schema.proofs.Steps.{steps_by, of_all}
use Rattle.space_sql_schema.proofs.Means.{availability_dropped, availability_unacted}
use Rattle.space_sql_schema.proofs.Making.{drops_table}
use Rattle.space_sql_schema.proofs.order.drop_availability.Goals as goal

pub returns-clause-keeps : goal.returns-clause-keeps
returns-clause-keeps g c =
    let old = state g.S.Store c.args.tx.now.conn.now in
    let new = state g.S.Store c.execute.new.self.conn.now in
    steps_by old new drop_availability_text _ c.execute.result _ _ (KeepsTables old_first_schema old_schema_4) c.execute.ensures.ended (λ off. ap (state g.S.Store) (c.execute.ensures.ended off).1) c.execute.ensures.runs c.execute.ensures.survives
    (λ h. of_all c.execute.result (λ trees. HasRows old_first_schema trees old.now) (λ trees. HasRows old_schema_4 trees new.now) (λ trees. drops_table old_first_schema old_schema_4 trees 4 (availability 8) drop_availability_text old new c.execute.result availability_dropped.0 availability_dropped.1 availability_dropped.2 refl availability_unacted refl availability_dropped.3 (λ P p. (p.0, (p.1.0, (p.1.1.0, (p.1.1.1.0, tt))))) h))
