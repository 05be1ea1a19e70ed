use Rattle.std.proofs.Common.{Ok, Err, refl}
use Rattle.sqlite.specs.Held.{state}
use Rattle.space_sql_schema.specs.declared.format.Format.TheVariants.{OldTwoUnindexed}
use Rattle.space_sql_schema.specs.Tables.{old_unindexed_schema}
use Rattle.space_sql_open.specs.FirstMeta.{SaysMeta}
use Rattle.space_sql_open.specs.OldRows.{HoldsAside, Takes, WantsAside}
use Rattle.space_sql_open.specs.Relaying.{TakesSecond}
use Rattle.space_sql_open.proofs.Insides.{inside_as, inside_then}
use Rattle.space_sql_open.proofs.Layings.{said_same, taken_second}
use Rattle.space_sql_open.proofs.laying.take_second.Goals as goal

pub returns-in-Ok-clause-takes : goal.returns-in-Ok-clause-takes
returns-in-Ok-clause-takes g c =
    let a = state g.S.Store c.args.tx.now.conn.now in
    let b = state g.S.Store c.second_meta.new.tx.conn.now in
    let d = state g.S.Store c.take_aside.new.tx.conn.now in
    inside_then old_unindexed_schema old_unindexed_schema (SaysMeta 2 OldTwoUnindexed) (Takes WantsAside HoldsAside) TakesSecond a b d (Ok tt) c.take_aside.result c.take_aside.result (λ has said. said_same old_unindexed_schema a.now b.now said.1 has) (λ has said took. taken_second a.now b.now d.now c.take_aside.result said took) (c.in-Ok.ensures.says OldTwoUnindexed refl) c.take_aside.ensures.takes

pub returns-in-Err-clause-takes : goal.returns-in-Err-clause-takes
returns-in-Err-clause-takes g c =
    inside_as old_unindexed_schema (SaysMeta 2 OldTwoUnindexed) TakesSecond (state g.S.Store c.args.tx.now.conn.now) (state g.S.Store c.second_meta.new.tx.conn.now) (Err c.in-Err.fault) (Err c.in-Err.fault) (λ has said. said) (c.in-Err.ensures.says OldTwoUnindexed refl)
