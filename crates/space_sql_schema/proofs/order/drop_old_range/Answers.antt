use Rattle.std.proofs.Common.{ap, refl}
use Rattle.sqlite.specs.Held.{state}
use Rattle.space_sql_schema.specs.Tables.{old_schema_4, schema_4, cell_range}
use Rattle.space_sql_schema.proofs.Texts.{drop_range_text}
use Rattle.space_sql_schema.specs.Making.{HasRows, KeepsTables}
use Rattle.space_sql_schema.proofs.Steps.{steps_by, of_all}
use Rattle.space_sql_schema.proofs.Means.{old_range_dropped}
use Rattle.space_sql_schema.proofs.Making.{drops_index}
use Rattle.space_sql_schema.proofs.order.drop_old_range.Goals as goal

pub returns-clause-keeps : goal.returns-clause-keeps
returns-clause-keeps g c =
    let old = state g.S.Store c.args.tx.now.conn.now in
    let new = state g.S.Store c.execute.new.self.conn.now in
    steps_by old new drop_range_text _ c.execute.result _ _ (KeepsTables old_schema_4 schema_4) c.execute.ensures.ended (λ off. ap (state g.S.Store) (c.execute.ensures.ended off).1) c.execute.ensures.runs c.execute.ensures.survives
    (λ h. of_all c.execute.result (λ trees. HasRows old_schema_4 trees old.now) (λ trees. HasRows schema_4 trees new.now) (λ trees. drops_index old_schema_4 schema_4 trees 3 (cell_range 7 5) drop_range_text old new c.execute.result old_range_dropped.0 old_range_dropped.1 old_range_dropped.2 refl old_range_dropped.3 refl h))
