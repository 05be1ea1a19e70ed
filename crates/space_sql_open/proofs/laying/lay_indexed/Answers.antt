use Rattle.std.proofs.Common.{Ok}
use Rattle.sqlite.specs.Held.{state}
use Rattle.space_sql_schema.specs.Tables.{old_second_schema, old_unindexed_schema}
use Rattle.space_sql_open.specs.Opening.{UpgradesFormat}
use Rattle.space_sql_open.specs.Relaying.{Unindexes}
use Rattle.space_sql_open.specs.declared.old_format.OldFormat.TheVariants.{OldTwo, OldTwoUnindexed}
use Rattle.space_sql_open.proofs.Insides.{inside_then}
use Rattle.space_sql_open.proofs.Layings.{indexed_laid}
use Rattle.space_sql_open.proofs.laying.lay_indexed.Goals as goal

pub returns-in-Ok-clause-moves : goal.returns-in-Ok-clause-moves
returns-in-Ok-clause-moves g c =
    let a = state g.S.Store c.args.tx.now.conn.now in
    let b = state g.S.Store c.unindex.new.tx.conn.now in
    let d = state g.S.Store c.lay_second.new.tx.conn.now in
    inside_then old_second_schema old_unindexed_schema Unindexes (UpgradesFormat OldTwoUnindexed) (UpgradesFormat OldTwo) a b d (Ok tt) c.lay_second.result c.lay_second.result (λ has made. made.0) (λ has made laid. indexed_laid a.now b.now d.now c.lay_second.result has made laid) c.in-Ok.ensures.unindexes c.lay_second.ensures.moves
