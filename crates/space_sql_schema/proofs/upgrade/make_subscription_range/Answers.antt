use Rattle.std.proofs.Common.{ap, refl}
use Rattle.sqlite.specs.Held.{state}
use Rattle.space_sql_schema.specs.Tables.{schema_9, unindexed_schema, subscription_cell, subscription_cell_range}
use Rattle.space_sql_schema.proofs.Texts.{subscription_range_text}
use Rattle.space_sql_schema.specs.Making.{AddsTables, HasRows, first_rows}
use Rattle.space_sql_schema.proofs.Steps.{steps_by, of_all}
use Rattle.space_sql_schema.proofs.Means.{subscription_range_made, subscription_index_is}
use Rattle.space_sql_schema.proofs.Making.{makes_index}
use Rattle.space_sql_schema.proofs.upgrade.make_subscription_range.Goals as goal

pub returns-clause-adds : goal.returns-clause-adds
returns-clause-adds g c =
    let old = state g.S.Store c.args.tx.now.conn.now in
    let new = state g.S.Store c.execute.new.self.conn.now in
    steps_by old new subscription_range_text _ c.execute.result _ _ (AddsTables schema_9 unindexed_schema) c.execute.ensures.ended (λ off. ap (state g.S.Store) (c.execute.ensures.ended off).1) c.execute.ensures.runs c.execute.ensures.survives
    (λ h. of_all c.execute.result (λ trees. HasRows schema_9 (first_rows trees) old.now) (λ trees. HasRows unindexed_schema (first_rows trees) new.now) (λ trees. makes_index schema_9 unindexed_schema (first_rows trees) (subscription_cell 11) 6 (subscription_cell_range 0 11) subscription_range_text old new c.execute.result subscription_range_made.0 subscription_range_made.1 subscription_range_made.2 refl subscription_index_is subscription_range_made.3 refl h))
