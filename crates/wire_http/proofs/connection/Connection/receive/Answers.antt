use Rattle.wire_http.proofs.BufferedLaws.{below_put, room_put}
use Rattle.wire_http.proofs.connection.Connection.receive.Goals as goal

pub invariant_of-self-clause-held_fits : goal.invariant_of-self-clause-held_fits
invariant_of-self-clause-held_fits c =
    room_put c.args.self.now.held.items c.put_behind.new.buffer.items c.args.bytes.now 1056768 c.put_behind.result c.put_behind.ensures.whole c.put_behind.ensures.same
    c.args.self.now.held_fits c.requires.room

pub invariant_of-self-clause-none_below : goal.invariant_of-self-clause-none_below
invariant_of-self-clause-none_below c =
    below_put c.args.self.now.held.items c.put_behind.new.buffer.items c.args.bytes.now c.args.self.now.wanted c.put_behind.result c.put_behind.ensures.whole c.put_behind.ensures.same
    c.args.self.now.none_below
