use Rattle.server_clients.proofs.Steps.{io_limited}
use Rattle.server_clients.proofs.client_io.ClientIo.limit_to_one_request.Goals as goal

pub returns : goal.returns
returns g c =
    io_limited (g.T.ClientSocket.name c.args.self.now.socket) c.args.self.now.ticket c.args.self.now.why c.args.self.now.connection c.limit_to_one_request.new.self
    (record { held_is = c.limit_to_one_request.ensures.held; ended_is = c.limit_to_one_request.ensures.ended; left_is = c.limit_to_one_request.ensures.left; output = c.limit_to_one_request.ensures.output; ready = c.limit_to_one_request.ensures.ready; slot = c.limit_to_one_request.ensures.slot; awaited = c.limit_to_one_request.ensures.awaited; done = c.limit_to_one_request.ensures.done })
