use Rattle.std.proofs.Common.{◌∙◌, ap}
use Rattle.server_clients.specs.ClientSet.{clients_of}
use Rattle.server.proofs.Changes.{changes_add, changes_found}
use Rattle.server_clients.proofs.Sets.{changes_none, changes_then}
use Rattle.server.proofs.event_loop.EventLoop.accept.Goals as goal
use Rattle.server.proofs.event_loop.EventLoop.accept.Goals.{in-Ok, in-Err-NoneWaits, in-Err-Gone, in-Err-Full}

pub loop-init : goal.loop-init
loop-init g c = changes_none (clients_of g.N.Client.ClientSocket.name c.args.self.now.clients) (clients_of g.N.Client.ClientSocket.name c.accept_operators.new.self.clients) (g.N.Sockets.history c.args.sockets.now) (g.N.Sockets.history c.accept_operators.new.sockets) c.accept_operators.ensures.clients c.accept_operators.ensures.history

pub loop-preserved : goal.loop-preserved
loop-preserved g c =
    changes_then (clients_of g.N.Client.ClientSocket.name c.args.self.now.clients) (clients_of g.N.Client.ClientSocket.name c.loop.self.clients) (clients_of g.N.Client.ClientSocket.name c.match-accept.self.clients) (g.N.Sockets.history c.args.sockets.now) (g.N.Sockets.history c.loop.sockets) (g.N.Sockets.history c.match-accept.sockets) c.loop.invariant
    (elim c.match-accept.branch [
      | in-Ok w ↦
          changes_found (clients_of g.N.Client.ClientSocket.name c.loop.self.clients) (clients_of g.N.Client.ClientSocket.name w.take_in.new.self.clients) (clients_of g.N.Client.ClientSocket.name c.match-accept.self.clients) (g.N.Sockets.history c.loop.sockets) (g.N.Sockets.history c.accept.new.self) (g.N.Sockets.history c.match-accept.sockets)
          (changes_add w.take_in.ensures.adds.0 (g.N.Client.ClientSocket.name w.in-Ok.socket) (clients_of g.N.Client.ClientSocket.name c.loop.self.clients) (clients_of g.N.Client.ClientSocket.name w.take_in.new.self.clients) (g.N.Sockets.history c.loop.sockets) (g.N.Sockets.history c.accept.new.self) w.take_in.ensures.adds.1 w.in-Ok.ensures)
          (ap (λ v. clients_of g.N.Client.ClientSocket.name v.clients) w.self-is) (ap g.N.Sockets.history w.sockets-is ∙ w.take_in.ensures.history)
      | in-Err-NoneWaits w ↦ changes_none (clients_of g.N.Client.ClientSocket.name c.loop.self.clients) (clients_of g.N.Client.ClientSocket.name c.match-accept.self.clients) (g.N.Sockets.history c.loop.sockets) (g.N.Sockets.history c.match-accept.sockets) (ap (λ v. clients_of g.N.Client.ClientSocket.name v.clients) w.self-is) (ap g.N.Sockets.history w.sockets-is ∙ w.in-Err-NoneWaits.ensures)
      | in-Err-Gone w ↦ changes_none (clients_of g.N.Client.ClientSocket.name c.loop.self.clients) (clients_of g.N.Client.ClientSocket.name c.match-accept.self.clients) (g.N.Sockets.history c.loop.sockets) (g.N.Sockets.history c.match-accept.sockets) (ap (λ v. clients_of g.N.Client.ClientSocket.name v.clients) w.self-is) (ap g.N.Sockets.history w.sockets-is ∙ w.in-Err-Gone.ensures)
      | in-Err-Full w ↦ changes_none (clients_of g.N.Client.ClientSocket.name c.loop.self.clients) (clients_of g.N.Client.ClientSocket.name c.match-accept.self.clients) (g.N.Sockets.history c.loop.sockets) (g.N.Sockets.history c.match-accept.sockets) (ap (λ v. clients_of g.N.Client.ClientSocket.name v.clients) w.self-is ∙ w.fail_accept.ensures) (ap g.N.Sockets.history w.sockets-is ∙ w.in-Err-Full.ensures)
    ])
