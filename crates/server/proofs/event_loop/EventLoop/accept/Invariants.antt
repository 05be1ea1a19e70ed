use Rattle.server_clients.specs.ClientSet.{ChangesClients}
use Rattle.server.proofs.event_loop.EventLoop.accept.Given as goal

abbrev pub invariant-loop : goal.invariant-loop
invariant-loop g l = ChangesClients g.N.Client.ClientSocket.name l.fn.self.clients l.self.clients (g.N.Sockets.history l.fn.sockets) (g.N.Sockets.history l.sockets)
