use Rattle.std.proofs.Common.{refl, sym, subst}
use Rattle.sqlite.specs.Effect.{Database}
use Rattle.sqlite.specs.Held.{state}
use Rattle.space_sql_schema.specs.Spelling.{Spells}
use Rattle.space_sql_schema.proofs.OneAirspace.{one_airspace}
use Rattle.space_sql_load.specs.Checking.{loaded_airspace}
use Rattle.space_sql.proofs.reading.read_loaded.Goals as goal

pub returns-in-Ok-Valid-clause-reads : goal.returns-in-Ok-Valid-clause-reads
returns-in-Ok-Valid-clause-reads g c =
    let old = state g.S.Store c.args.conn.now in
    let judged = rw c.in-Ok-Valid.field-0-is at c.in-Ok-Valid.ensures.reads in
    record {
      answer = λ clean a p. one_airspace old.now old.now _ a refl (judged.answer clean p.schema) p;
      rests = judged.rests;
      is_open = judged.is_open;
      survives = judged.survives;
    }

pub returns-in-Ok-Valid-clause-spelt : goal.returns-in-Ok-Valid-clause-spelt
returns-in-Ok-Valid-clause-spelt g c = λ clean schema.
    let judged = rw c.in-Ok-Valid.field-0-is at c.in-Ok-Valid.ensures.reads in
    subst (λ (db : Database). Spells db (loaded_airspace c.in-Ok-Valid.listed)) (sym (judged.rests clean schema).1) (judged.answer clean schema)
