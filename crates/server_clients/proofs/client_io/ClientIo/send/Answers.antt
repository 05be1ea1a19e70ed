use Rattle.std.proofs.Common.{◌≤◌, List, ap, arith, length, subst, take, ℕ}
use Rattle.std.proofs.lemmas.Grind.{common_steps}
use Rattle.server_clients.specs.declared.reason.Reason.TheVariants.{Write}
use Rattle.server_clients.proofs.Steps.{io_aborted, io_sent_none, io_took}
use Rattle.server_clients.proofs.client_io.ClientIo.send.Goals as goal

pub returns-in-Ok-eq0-clause-steps : goal.returns-in-Ok-eq0-clause-steps
returns-in-Ok-eq0-clause-steps g c =
    io_sent_none (g.T.ClientSocket.name c.args.self.now.socket) (g.T.ClientSocket.name c.send.new.client) c.args.self.now.ticket (g.N.Sockets.history c.args.sockets.now) (g.N.Sockets.history c.send.new.self) c.send.ensures.name c.args.self.now.why Write c.in-Ok-eq0.field-0 c.args.self.now.connection _
    c.in-Ok-eq0.field-0-test c.in-Ok-eq0.ensures.recorded

pub returns-in-Ok-clause-steps : goal.returns-in-Ok-clause-steps
returns-in-Ok-clause-steps g c =
    let chunk = take c.min.result c.output-output.result.now in
    let within : c.min.result ≤ length c.output-output.result.now = grind (arith, common_steps, c.min.ensures) in
    io_took (g.T.ClientSocket.name c.args.self.now.socket) (g.T.ClientSocket.name c.send.new.client) c.args.self.now.ticket (g.N.Sockets.history c.args.sockets.now) (g.N.Sockets.history c.send.new.self) c.send.ensures.name c.args.self.now.why c.in-Ok.count c.min.result c.args.self.now.connection c.mark_sent.new.self chunk
    (ap (λ (v : List ℕ). take c.min.result v) c.output-output.ensures) (subst (λ (v : List ℕ). c.min.result ≤ length v) c.output-output.ensures within)
    c.in-Ok.ensures.bound c.in-Ok.ensures.recorded
    c.mark_sent.ensures.held c.mark_sent.ensures.output c.mark_sent.ensures.ready c.mark_sent.ensures.slot c.mark_sent.ensures.awaited c.mark_sent.ensures.left c.mark_sent.ensures.ended c.mark_sent.ensures.done

pub returns-in_default-clause-steps : goal.returns-in_default-clause-steps
returns-in_default-clause-steps g c =
    io_aborted (g.T.ClientSocket.name c.args.self.now.socket) (g.T.ClientSocket.name c.send.new.client) c.args.self.now.ticket (g.N.Sockets.history c.args.sockets.now) (g.N.Sockets.history c.send.new.self) c.send.ensures.name c.args.self.now.why Write c.args.self.now.connection c.in-Err.ensures.recorded
