use Rattle.std.proofs.Common.{arith, take}
use Rattle.server_base.proofs.Histories.{read_none, some_read}
use Rattle.server_clients.proofs.Steps.{io_discarded, io_ended}
use Rattle.server_clients.proofs.client_io.ClientIo.skip.Goals as goal

pub returns-then-count-eq0 : goal.returns-then-count-eq0
returns-then-count-eq0 g c =
    io_ended (g.T.ClientSocket.name c.args.self.now.socket) (g.T.ClientSocket.name c.receive.new.client) c.args.self.now.ticket (g.N.Sockets.history c.args.sockets.now) (g.N.Sockets.history c.receive.new.self) c.receive.ensures.name c.args.self.now.why c.args.self.now.connection c.end_of_input.new.self
    (read_none (g.T.ClientSocket.name c.args.self.now.socket) c.in-Ok.count c.receive.new.chunk (g.N.Sockets.history c.args.sockets.now) (g.N.Sockets.history c.receive.new.self) c.if-count-eq0.true c.in-Ok.ensures.recorded)
    (record { held_is = c.end_of_input.ensures.held; ended_is = c.end_of_input.ensures.ended; left_is = c.end_of_input.ensures.left; output = c.end_of_input.ensures.output; ready = c.end_of_input.ensures.ready; slot = c.end_of_input.ensures.slot; awaited = c.end_of_input.ensures.awaited; done = c.end_of_input.ensures.done })

pub returns-else-count-eq0 : goal.returns-else-count-eq0
returns-else-count-eq0 g c =
    io_discarded (g.T.ClientSocket.name c.args.self.now.socket) (g.T.ClientSocket.name c.receive.new.client) c.args.self.now.ticket (g.N.Sockets.history c.args.sockets.now) (g.N.Sockets.history c.receive.new.self) c.receive.ensures.name c.args.self.now.why c.args.self.now.connection (take c.in-Ok.count c.receive.new.chunk)
    (grind (arith, c.is_done.ensures, c.if-not-is_done.false)) (some_read c.in-Ok.count c.receive.new.chunk c.in-Ok.ensures.bound.0 c.if-count-eq0.false) c.in-Ok.ensures.recorded
