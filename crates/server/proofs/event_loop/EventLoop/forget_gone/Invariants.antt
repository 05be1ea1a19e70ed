use Rattle.server_clients.specs.ClientSet.{KeepsClients}
use Rattle.server.specs.Numbers.{ForgetsAll}
use Rattle.server.proofs.event_loop.EventLoop.forget_gone.Given as goal

abbrev pub invariant-loop : goal.invariant-loop
invariant-loop g l = ForgetsAll g.B.Backend l.fn.backend l.backend × KeepsClients g.N.Client.ClientSocket.name l.fn.self.clients l.self.clients
