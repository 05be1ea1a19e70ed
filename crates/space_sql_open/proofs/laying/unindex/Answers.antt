use Rattle.std.proofs.Common.{Ok, refl}
use Rattle.sqlite.specs.Held.{state}
use Rattle.space_sql_schema.specs.Making.{KeepsTables}
use Rattle.space_sql_schema.specs.Tables.{old_second_schema, old_unindexed_schema}
use Rattle.space_sql_open.specs.Relaying.{Unindexes}
use Rattle.space_sql_open.proofs.Insides.{inside_steps}
use Rattle.space_sql_open.proofs.laying.unindex.Goals as goal

pub returns-in-Ok-clause-unindexes : goal.returns-in-Ok-clause-unindexes
returns-in-Ok-clause-unindexes g c =
    let old = state g.S.Store c.args.tx.now.conn.now in
    let new = state g.S.Store c.drop_naming_index.new.tx.conn.now in
    inside_steps old_second_schema (KeepsTables old_second_schema old_unindexed_schema) Unindexes old new _ (Ok tt) (λ has keeps. keeps old.now.trees (has, (refl, (refl, (refl, (refl, (refl, (refl, (refl, (refl, tt)))))))))) c.in-Ok.ensures.keeps
