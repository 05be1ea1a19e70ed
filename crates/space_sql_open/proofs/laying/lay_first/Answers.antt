use Rattle.std.proofs.Common.{Ok}
use Rattle.sqlite.specs.Held.{state}
use Rattle.space_sql_schema.specs.Tables.{dss_schema, old_first_schema}
use Rattle.space_sql_open.specs.Opening.{UpgradesFormat}
use Rattle.space_sql_open.specs.Relaying.{TakesFirst, MovesFirst}
use Rattle.space_sql_open.specs.Upgrading.{Judges}
use Rattle.space_sql_open.specs.declared.old_format.OldFormat.TheVariants.{OldOne}
use Rattle.space_sql_open.proofs.Insides.{inside_then}
use Rattle.space_sql_open.proofs.Layings.{HasLaidFirstOk, has_laid_first, laid_first_schema, laid_first, said_same}
use Rattle.space_sql_open.proofs.laying.lay_first.Goals as goal

pub returns-in-Ok-move_first-clause-moves : goal.returns-in-Ok-move_first-clause-moves
returns-in-Ok-move_first-clause-moves g c =
    let a = state g.S.Store c.args.tx.now.conn.now in
    let b = state g.S.Store c.take_first.new.tx.conn.now in
    let d = state g.S.Store c.move_first.new.tx.conn.now in
    let e = state g.S.Store c.check_upgraded.new.tx.conn.now in
    let made = inside_then old_first_schema old_first_schema TakesFirst (MovesFirst c.in-Ok.settings.items) HasLaidFirstOk a b d (Ok c.in-Ok.settings) (Ok tt) (Ok tt) (λ has took. said_same old_first_schema a.now b.now took.2 has) (λ has took moved. has_laid_first a.now b.now d.now c.in-Ok.settings has took moved) c.in-Ok.ensures.takes (rw c.as_slice.ensures.value at c.in-Ok-move_first.ensures.moves) in
    inside_then old_first_schema dss_schema HasLaidFirstOk Judges (UpgradesFormat OldOne) a d e (Ok tt) c.check_upgraded.result c.check_upgraded.result (λ has made. laid_first_schema a.now d.now made) (λ has made judged. laid_first a.now d.now e.now c.check_upgraded.result made judged) made c.check_upgraded.ensures.judges
