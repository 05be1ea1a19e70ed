use Rattle.std.proofs.Common.{ap, refl}
use Rattle.sqlite.specs.Held.{state}
use Rattle.space_sql_schema.specs.Tables.{old_schema_7, old_schema_6, subscription_cell}
use Rattle.space_sql_schema.proofs.Texts.{drop_subscription_cell_text}
use Rattle.space_sql_schema.specs.Making.{HasRows, KeepsTables}
use Rattle.space_sql_schema.proofs.Steps.{steps_by, of_all}
use Rattle.space_sql_schema.proofs.Means.{subscription_cell_dropped, subscription_cell_unacted}
use Rattle.space_sql_schema.proofs.Making.{drops_table}
use Rattle.space_sql_schema.proofs.order.drop_subscription_cell.Goals as goal

pub returns-clause-keeps : goal.returns-clause-keeps
returns-clause-keeps g c =
    let old = state g.S.Store c.args.tx.now.conn.now in
    let new = state g.S.Store c.execute.new.self.conn.now in
    steps_by old new drop_subscription_cell_text _ c.execute.result _ _ (KeepsTables old_schema_7 old_schema_6) c.execute.ensures.ended (λ off. ap (state g.S.Store) (c.execute.ensures.ended off).1) c.execute.ensures.runs c.execute.ensures.survives
    (λ h. of_all c.execute.result (λ trees. HasRows old_schema_7 trees old.now) (λ trees. HasRows old_schema_6 trees new.now) (λ trees. drops_table old_schema_7 old_schema_6 trees 6 (subscription_cell 12) drop_subscription_cell_text old new c.execute.result subscription_cell_dropped.0 subscription_cell_dropped.1 subscription_cell_dropped.2 refl subscription_cell_unacted refl subscription_cell_dropped.3 (λ P p. (p.0, (p.1.0, (p.1.1.0, (p.1.1.1.0, (p.1.1.1.1.0, (p.1.1.1.1.1.0, tt))))))) h))
