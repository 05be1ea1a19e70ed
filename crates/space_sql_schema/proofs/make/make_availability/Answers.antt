use Rattle.std.proofs.Common.{ap, refl}
use Rattle.sqlite.specs.Held.{state}
use Rattle.space_sql_schema.specs.Tables.{schema_4, schema_5, availability}
use Rattle.space_sql_schema.proofs.Texts.{availability_text}
use Rattle.space_sql_schema.specs.Making.{AddsToFour, HasRows, four_rows}
use Rattle.space_sql_schema.proofs.Steps.{steps_by, of_all}
use Rattle.space_sql_schema.proofs.Means.{availability_made, availability_is}
use Rattle.space_sql_schema.proofs.Making.{makes}
use Rattle.space_sql_schema.proofs.make.make_availability.Goals as goal

pub returns-clause-adds : goal.returns-clause-adds
returns-clause-adds g c =
    let old = state g.S.Store c.args.tx.now.conn.now in
    let new = state g.S.Store c.execute.new.self.conn.now in
    steps_by old new availability_text _ c.execute.result _ _ (AddsToFour schema_4 schema_5) c.execute.ensures.ended (λ off. ap (state g.S.Store) (c.execute.ensures.ended off).1) c.execute.ensures.runs c.execute.ensures.survives
    (λ h. of_all c.execute.result (λ trees. HasRows schema_4 (four_rows trees) old.now) (λ trees. HasRows schema_5 (four_rows trees) new.now) (λ trees. makes schema_4 schema_5 (four_rows trees) (availability 0) availability_text old new c.execute.result refl availability_made.0 availability_made.1 availability_made.2 availability_is availability_made.3 refl h))
