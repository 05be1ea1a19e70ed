use Rattle.std.proofs.Common.{Ok, Err, refl}
use Rattle.sqlite.specs.Held.{state}
use Rattle.space_sql_schema.specs.declared.format.Format.TheVariants.{OldOne}
use Rattle.space_sql_schema.specs.Tables.{old_first_schema}
use Rattle.space_sql_open.specs.FirstMeta.{SaysMeta}
use Rattle.space_sql_open.specs.OldRows.{HoldsSettings, Takes, WantsSettings}
use Rattle.space_sql_open.specs.Relaying.{TakesFirst}
use Rattle.space_sql_open.proofs.Insides.{inside_as, inside_then}
use Rattle.space_sql_open.proofs.Layings.{said_same, taken_first}
use Rattle.space_sql_open.proofs.laying.take_first.Goals as goal

pub returns-in-Ok-clause-takes : goal.returns-in-Ok-clause-takes
returns-in-Ok-clause-takes g c =
    let a = state g.S.Store c.args.tx.now.conn.now in
    let b = state g.S.Store c.first_meta.new.tx.conn.now in
    let d = state g.S.Store c.take_settings.new.tx.conn.now in
    inside_then old_first_schema old_first_schema (SaysMeta 1 OldOne) (Takes WantsSettings HoldsSettings) TakesFirst a b d (Ok tt) c.take_settings.result c.take_settings.result (λ has said. said_same old_first_schema a.now b.now said.1 has) (λ has said took. taken_first a.now b.now d.now c.take_settings.result said took) (c.in-Ok.ensures.says OldOne refl) c.take_settings.ensures.first

pub returns-in-Err-clause-takes : goal.returns-in-Err-clause-takes
returns-in-Err-clause-takes g c =
    inside_as old_first_schema (SaysMeta 1 OldOne) TakesFirst (state g.S.Store c.args.tx.now.conn.now) (state g.S.Store c.first_meta.new.tx.conn.now) (Err c.in-Err.fault) (Err c.in-Err.fault) (λ has said. said) (c.in-Err.ensures.says OldOne refl)
