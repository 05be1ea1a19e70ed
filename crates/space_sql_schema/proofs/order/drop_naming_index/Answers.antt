use Rattle.std.proofs.Common.{ap, refl}
use Rattle.sqlite.specs.Held.{state}
use Rattle.space_sql_schema.specs.Tables.{old_second_schema, old_unindexed_schema, naming_subscription}
use Rattle.space_sql_schema.proofs.Texts.{drop_naming_index_text}
use Rattle.space_sql_schema.specs.Making.{HasRows, KeepsTables}
use Rattle.space_sql_schema.proofs.Steps.{steps_by, of_all}
use Rattle.space_sql_schema.proofs.Means.{naming_index_dropped}
use Rattle.space_sql_schema.proofs.Making.{drops_index}
use Rattle.space_sql_schema.proofs.order.drop_naming_index.Goals as goal

pub returns-clause-keeps : goal.returns-clause-keeps
returns-clause-keeps g c =
    let old = state g.S.Store c.args.tx.now.conn.now in
    let new = state g.S.Store c.execute.new.self.conn.now in
    steps_by old new drop_naming_index_text _ c.execute.result _ _ (KeepsTables old_second_schema old_unindexed_schema) c.execute.ensures.ended (λ off. ap (state g.S.Store) (c.execute.ensures.ended off).1) c.execute.ensures.runs c.execute.ensures.survives
    (λ h. of_all c.execute.result (λ trees. HasRows old_second_schema trees old.now) (λ trees. HasRows old_unindexed_schema trees new.now) (λ trees. drops_index old_second_schema old_unindexed_schema trees 8 (naming_subscription 16 15) drop_naming_index_text old new c.execute.result naming_index_dropped.0 naming_index_dropped.1 naming_index_dropped.2 refl naming_index_dropped.3 refl h))
