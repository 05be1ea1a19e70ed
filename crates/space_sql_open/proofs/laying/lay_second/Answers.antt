use Rattle.std.proofs.Common.{Ok}
use Rattle.sqlite.specs.Held.{state}
use Rattle.space_sql_schema.specs.Tables.{dss_schema, old_unindexed_schema}
use Rattle.space_sql_open.specs.Opening.{UpgradesFormat}
use Rattle.space_sql_open.specs.Relaying.{TakesSecond, MovesSecond, listed}
use Rattle.space_sql_open.specs.Upgrading.{Judges}
use Rattle.space_sql_open.specs.declared.old_format.OldFormat.TheVariants.{OldTwoUnindexed}
use Rattle.space_sql_open.proofs.Insides.{inside_then}
use Rattle.space_sql_open.proofs.Layings.{HasLaidSecondOk, has_laid_second, laid_second, said_same}
use Rattle.space_sql_open.proofs.laying.lay_second.Goals as goal

pub returns-in-Ok-move_second-clause-moves : goal.returns-in-Ok-move_second-clause-moves
returns-in-Ok-move_second-clause-moves g c =
    let a = state g.S.Store c.args.tx.now.conn.now in
    let b = state g.S.Store c.take_second.new.tx.conn.now in
    let d = state g.S.Store c.move_second.new.tx.conn.now in
    let e = state g.S.Store c.check_upgraded.new.tx.conn.now in
    let made = inside_then old_unindexed_schema old_unindexed_schema TakesSecond (MovesSecond (listed c.in-Ok.aside)) HasLaidSecondOk a b d (Ok c.in-Ok.aside) (Ok tt) (Ok tt) (λ has took. said_same old_unindexed_schema a.now b.now took.2 has) (λ has took moved. has_laid_second a.now b.now d.now c.in-Ok.aside has took moved) c.in-Ok.ensures.takes c.in-Ok-move_second.ensures.moves in
    inside_then old_unindexed_schema dss_schema HasLaidSecondOk Judges (UpgradesFormat OldTwoUnindexed) a d e (Ok tt) c.check_upgraded.result c.check_upgraded.result (λ has made. made.has.schema) (λ has made judged. laid_second a.now d.now e.now c.check_upgraded.result made judged) made c.check_upgraded.ensures.judges
