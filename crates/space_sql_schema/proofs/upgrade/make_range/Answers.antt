use Rattle.std.proofs.Common.{ap, refl}
use Rattle.sqlite.specs.Held.{state}
use Rattle.space_sql_schema.specs.Tables.{schema_8, schema_9, cell, cell_range}
use Rattle.space_sql_schema.proofs.Texts.{range_text}
use Rattle.space_sql_schema.specs.Making.{AddsTables, HasRows, first_rows}
use Rattle.space_sql_schema.proofs.Steps.{steps_by, of_all}
use Rattle.space_sql_schema.proofs.Means.{range_made, index_is}
use Rattle.space_sql_schema.proofs.Making.{makes_index}
use Rattle.space_sql_schema.proofs.upgrade.make_range.Goals as goal

pub returns-clause-adds : goal.returns-clause-adds
returns-clause-adds g c =
    let old = state g.S.Store c.args.tx.now.conn.now in
    let new = state g.S.Store c.execute.new.self.conn.now in
    steps_by old new range_text _ c.execute.result _ _ (AddsTables schema_8 schema_9) c.execute.ensures.ended (λ off. ap (state g.S.Store) (c.execute.ensures.ended off).1) c.execute.ensures.runs c.execute.ensures.survives
    (λ h. of_all c.execute.result (λ trees. HasRows schema_8 (first_rows trees) old.now) (λ trees. HasRows schema_9 (first_rows trees) new.now) (λ trees. makes_index schema_8 schema_9 (first_rows trees) (cell 5) 3 (cell_range 0 5) range_text old new c.execute.result range_made.0 range_made.1 range_made.2 refl index_is range_made.3 refl h))
