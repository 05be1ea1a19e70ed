use Rattle.server_clients.proofs.Steps.{io_none, steps_then}
use Rattle.server_clients.proofs.client_io.ClientIo.end_sending.Goals as goal

pub returns-clause-steps : goal.returns-clause-steps
returns-clause-steps g c =
    steps_then _ _ _ _ _ _ (c.stop.ensures.steps (g.N.Sockets.history c.args.sockets.now))
    (io_none (g.T.ClientSocket.name c.stop.new.self.socket) (g.T.ClientSocket.name c.end_sending.new.client) c.stop.new.self.ticket (g.N.Sockets.history c.args.sockets.now) (g.N.Sockets.history c.end_sending.new.self)
    c.end_sending.ensures.name c.stop.new.self.why c.stop.new.self.connection c.end_sending.ensures.history)
