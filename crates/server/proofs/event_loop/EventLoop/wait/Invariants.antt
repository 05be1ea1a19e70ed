use Rattle.std.specs.Prelude.{◌≡◌}
use Rattle.server_clients.specs.ClientSet.{KeepsClients}
use Rattle.server.proofs.event_loop.EventLoop.wait.Given as goal

abbrev pub invariant-loop : goal.invariant-loop
invariant-loop g l = KeepsClients g.N.Client.ClientSocket.name l.fn.self.clients l.self.clients × (g.N.Sockets.history l.sockets ≡ g.N.Sockets.history l.fn.sockets)
