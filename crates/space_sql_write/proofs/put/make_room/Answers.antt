use Rattle.std.proofs.Common.{to_z, of_z, w64, Some, None, ◌≡◌, ap, pos, rules}
use Rattle.sqlite.specs.Held.{state}
use Rattle.entity_core.specs.Airspace.{key_of}
use Rattle.space_sql_write.specs.Layout.{Always, without_rows}
use Rattle.space_sql_write.specs.Statements.{FindsNumber, RelaysSound}
use Rattle.space_sql_write.specs.Putting.{MakesRoom}
use Rattle.space_sql_write.proofs.Running.{runs_then, runs_as_well}
use Rattle.space_sql_write.proofs.Putting.{room_left, room_there}
use Rattle.space_sql_write.proofs.put.make_room.Goals as goal

pub returns-in_ok-clear_entity-in-Some-clause-room : goal.returns-in_ok-clear_entity-in-Some-clause-room
returns-in_ok-clear_entity-in-Some-clause-room g c =
    let old = state g.S.Store c.args.tx.now.conn.now in
    let found = state g.S.Store c.number_of.new.tx.conn.now in
    let new = state g.S.Store c.clear_entity.new.tx.conn.now in
    let e = c.args.entity.now in
    let num = c.in-Some.num in
    let own : to_z w64 (of_z w64 num) ≡ num = search rules in
    let finds = rw (c.kind.ensures, c.in-Some.is) at c.in_ok-num.ensures.finds in
    let clears = rw own at c.in_ok-clear_entity-in-Some.ensures.clears in
    rw own (runs_then (FindsNumber (key_of e)) (λ (_ : Unit {0}). RelaysSound Always (without_rows num)) (MakesRoom e) old found new (Some num) tt num (λ there gone. room_left e num old.now found.now new.now there gone.0) finds clears)

pub returns-in-None-clause-room : goal.returns-in-None-clause-room
returns-in-None-clause-room g c =
    let old = state g.S.Store c.args.tx.now.conn.now in
    let new = state g.S.Store c.number_of.new.tx.conn.now in
    let e = c.args.entity.now in
    let serial = c.number-serial.result in
    let own : to_z w64 serial ≡ pos serial = search rules in
    let finds = rw (c.kind.ensures, c.in-None.is) at c.in_ok-num.ensures.finds in
    rw own (runs_as_well (FindsNumber (key_of e)) (MakesRoom e) old new None (pos serial) (room_there e (pos serial) old.now new.now (ap pos c.number-serial.ensures.number)) finds)
