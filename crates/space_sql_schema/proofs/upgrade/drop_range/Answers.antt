use Rattle.std.proofs.Common.{ap, refl}
use Rattle.sqlite.specs.Held.{state}
use Rattle.space_sql_schema.specs.Tables.{first_schema, schema_5, cell_range}
use Rattle.space_sql_schema.proofs.Texts.{drop_range_text}
use Rattle.space_sql_schema.specs.Making.{AddsTables, HasRows, first_rows}
use Rattle.space_sql_schema.proofs.Steps.{steps_by, of_all}
use Rattle.space_sql_schema.proofs.Means.{range_dropped}
use Rattle.space_sql_schema.proofs.Making.{drops_index}
use Rattle.space_sql_schema.proofs.upgrade.drop_range.Goals as goal

pub returns-clause-adds : goal.returns-clause-adds
returns-clause-adds g c =
    let old = state g.S.Store c.args.tx.now.conn.now in
    let new = state g.S.Store c.execute.new.self.conn.now in
    steps_by old new drop_range_text _ c.execute.result _ _ (AddsTables first_schema schema_5) c.execute.ensures.ended (λ off. ap (state g.S.Store) (c.execute.ensures.ended off).1) c.execute.ensures.runs c.execute.ensures.survives
    (λ h. of_all c.execute.result (λ trees. HasRows first_schema (first_rows trees) old.now) (λ trees. HasRows schema_5 (first_rows trees) new.now) (λ trees. drops_index first_schema schema_5 (first_rows trees) 4 (cell_range 9 5) drop_range_text old new c.execute.result range_dropped.0 range_dropped.1 range_dropped.2 refl range_dropped.3 refl h))
