use Rattle.server_clients.specs.ClientSet.{ChangesClients}
use Rattle.server.proofs.event_loop.EventLoop.move_all.Given as goal

abbrev pub invariant-loop-key : goal.invariant-loop-key
invariant-loop-key g l = ChangesClients g.N.Client.ClientSocket.name l.fn.self.clients l.self.clients (g.N.Sockets.history l.fn.sockets) (g.N.Sockets.history l.sockets)
