use Rattle.server_clients.proofs.Steps.{io_same}
use Rattle.server_clients.proofs.client_io.ClientIo.peek.Goals as goal

pub returns-clause-client : goal.returns-clause-client
returns-clause-client g c =
    io_same (g.T.ClientSocket.name c.args.self.now.socket) c.args.self.now.ticket c.args.self.now.why c.args.self.now.connection c.peek.new.self
    (record { held_is = c.peek.ensures.held; ended_is = c.peek.ensures.ended; left_is = c.peek.ensures.left; output = c.peek.ensures.output; ready = c.peek.ensures.ready; slot = c.peek.ensures.slot; awaited = c.peek.ensures.awaited; done = c.peek.ensures.done })
