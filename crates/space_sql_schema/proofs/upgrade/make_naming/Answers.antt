use Rattle.std.proofs.Common.{ap, refl}
use Rattle.sqlite.specs.Held.{state}
use Rattle.space_sql_schema.specs.Tables.{schema_7, schema_8, naming}
use Rattle.space_sql_schema.proofs.Texts.{naming_text}
use Rattle.space_sql_schema.specs.Making.{AddsTables, HasRows, first_rows}
use Rattle.space_sql_schema.proofs.Steps.{steps_by, of_all}
use Rattle.space_sql_schema.proofs.Means.{naming_made, naming_is}
use Rattle.space_sql_schema.proofs.Making.{makes}
use Rattle.space_sql_schema.proofs.upgrade.make_naming.Goals as goal

pub returns-clause-adds : goal.returns-clause-adds
returns-clause-adds g c =
    let old = state g.S.Store c.args.tx.now.conn.now in
    let new = state g.S.Store c.execute.new.self.conn.now in
    steps_by old new naming_text _ c.execute.result _ _ (AddsTables schema_7 schema_8) c.execute.ensures.ended (λ off. ap (state g.S.Store) (c.execute.ensures.ended off).1) c.execute.ensures.runs c.execute.ensures.survives
    (λ h. of_all c.execute.result (λ trees. HasRows schema_7 (first_rows trees) old.now) (λ trees. HasRows schema_8 (first_rows trees) new.now) (λ trees. makes schema_7 schema_8 (first_rows trees) (naming 0) naming_text old new c.execute.result refl naming_made.0 naming_made.1 naming_made.2 naming_is naming_made.3 refl h))
