use Rattle.std.proofs.Common.{arith, take}
use Rattle.std.proofs.lemmas.Grind.{common_steps}
use Rattle.server_base.proofs.Histories.{read_none, some_read}
use Rattle.server_clients.specs.declared.reason.Reason.TheVariants.{Memory, Read}
use Rattle.server_clients.proofs.Steps.{io_aborted, io_ended, io_lost, io_received}
use Rattle.server_clients.proofs.client_io.ClientIo.receive.Goals as goal

pub returns-then-count-eq0-clause-steps : goal.returns-then-count-eq0-clause-steps
returns-then-count-eq0-clause-steps g c =
    io_ended (g.T.ClientSocket.name c.args.self.now.socket) (g.T.ClientSocket.name c.receive.new.client) c.args.self.now.ticket (g.N.Sockets.history c.args.sockets.now) (g.N.Sockets.history c.receive.new.self) c.receive.ensures.name c.args.self.now.why c.args.self.now.connection c.end_of_input.new.self
    (read_none (g.T.ClientSocket.name c.args.self.now.socket) c.in-Ok.count c.receive.new.chunk (g.N.Sockets.history c.args.sockets.now) (g.N.Sockets.history c.receive.new.self) c.if-count-eq0.true c.in-Ok.ensures.recorded)
    (record { held_is = c.end_of_input.ensures.held; ended_is = c.end_of_input.ensures.ended; left_is = c.end_of_input.ensures.left; output = c.end_of_input.ensures.output; ready = c.end_of_input.ensures.ready; slot = c.end_of_input.ensures.slot; awaited = c.end_of_input.ensures.awaited; done = c.end_of_input.ensures.done })

pub returns-in-Ok-receive-clause-steps : goal.returns-in-Ok-receive-clause-steps
returns-in-Ok-receive-clause-steps g c =
    io_received (g.T.ClientSocket.name c.args.self.now.socket) (g.T.ClientSocket.name c.receive.new.client) c.args.self.now.ticket (g.N.Sockets.history c.args.sockets.now) (g.N.Sockets.history c.receive.new.self) c.receive.ensures.name c.args.self.now.why c.args.self.now.connection c.receive-in-Ok.new.self (take c.in-Ok.count c.receive.new.chunk)
    (some_read c.in-Ok.count c.receive.new.chunk c.in-Ok.ensures.bound.0 c.if-count-eq0.false) c.in-Ok.ensures.recorded
    (record { held_is = grind (arith, common_steps, c.in-Ok-receive.ensures.held); ended_is = c.receive-in-Ok.ensures.ended; left_is = c.receive-in-Ok.ensures.left; output = c.receive-in-Ok.ensures.output; ready = c.receive-in-Ok.ensures.ready; slot = c.receive-in-Ok.ensures.slot; awaited = c.receive-in-Ok.ensures.awaited; done = c.receive-in-Ok.ensures.done })

pub returns-in-Err-receive-clause-steps : goal.returns-in-Err-receive-clause-steps
returns-in-Err-receive-clause-steps g c =
    io_lost (g.T.ClientSocket.name c.args.self.now.socket) (g.T.ClientSocket.name c.receive.new.client) c.args.self.now.ticket (g.N.Sockets.history c.args.sockets.now) (g.N.Sockets.history c.receive.new.self) c.receive.ensures.name c.args.self.now.why Memory c.args.self.now.connection c.receive-in-Ok.new.self (take c.in-Ok.count c.receive.new.chunk)
    (some_read c.in-Ok.count c.receive.new.chunk c.in-Ok.ensures.bound.0 c.if-count-eq0.false) c.in-Ok.ensures.recorded
    (record { held_is = c.in-Err-receive.ensures.none; ended_is = c.receive-in-Ok.ensures.ended; left_is = c.receive-in-Ok.ensures.left; output = c.receive-in-Ok.ensures.output; ready = c.receive-in-Ok.ensures.ready; slot = c.receive-in-Ok.ensures.slot; awaited = c.receive-in-Ok.ensures.awaited; done = c.receive-in-Ok.ensures.done })

pub returns-in_default-clause-steps : goal.returns-in_default-clause-steps
returns-in_default-clause-steps g c =
    io_aborted (g.T.ClientSocket.name c.args.self.now.socket) (g.T.ClientSocket.name c.receive.new.client) c.args.self.now.ticket (g.N.Sockets.history c.args.sockets.now) (g.N.Sockets.history c.receive.new.self) c.receive.ensures.name c.args.self.now.why Read c.args.self.now.connection c.in-Err.ensures.recorded
