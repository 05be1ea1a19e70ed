use Rattle.std.proofs.Common.{refl}
use Rattle.server_clients.specs.ClientSet.{clients_of}
use Rattle.server_clients.proofs.Sets.{changes_none, changes_then}
use Rattle.server.proofs.event_loop.EventLoop.move_all.Goals as goal

pub loop-key-init : goal.loop-key-init
loop-key-init g c = changes_none (clients_of g.N.Client.ClientSocket.name c.args.self.now.clients) (clients_of g.N.Client.ClientSocket.name c.take_queued-keys.new.self) (g.N.Sockets.history c.args.sockets.now) (g.N.Sockets.history c.args.sockets.now) c.take_queued-keys.ensures refl

pub loop-key-preserved : goal.loop-key-preserved
loop-key-preserved g c = changes_then _ (clients_of g.N.Client.ClientSocket.name c.loop-key.self.clients) _ _ (g.N.Sockets.history c.loop-key.sockets) _ c.loop-key.invariant c.move_one.ensures

pub returns : goal.returns
returns g c = changes_then _ (clients_of g.N.Client.ClientSocket.name c.loop-key.self.clients) _ _ (g.N.Sockets.history c.loop-key.sockets) _ c.loop-key.invariant (changes_none (clients_of g.N.Client.ClientSocket.name c.loop-key.self.clients) (clients_of g.N.Client.ClientSocket.name c.return_queued.new.self) (g.N.Sockets.history c.loop-key.sockets) (g.N.Sockets.history c.loop-key.sockets) c.return_queued.ensures refl)
