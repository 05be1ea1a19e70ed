use Rattle.std.proofs.Common.{refl}
use Rattle.server_clients.proofs.Steps.{io_aborted, steps_none}
use Rattle.server_clients.proofs.client_io.ClientIo.stop.Goals as goal

pub returns-then-is_done-clause-steps : goal.returns-then-is_done-clause-steps
returns-then-is_done-clause-steps g c = λ past. steps_none _ past

pub returns-clause-steps : goal.returns-clause-steps
returns-clause-steps g c = λ past.
    io_aborted (g.T.ClientSocket.name c.args.self.now.socket) (g.T.ClientSocket.name c.args.self.now.socket) c.args.self.now.ticket past past refl c.args.self.now.why c.args.why c.args.self.now.connection refl
