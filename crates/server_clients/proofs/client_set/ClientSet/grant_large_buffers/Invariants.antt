use Rattle.server_clients.specs.ClientSet.{KeepsClients}
use Rattle.server_clients.proofs.client_set.ClientSet.grant_large_buffers.Given as goal

abbrev pub invariant-loop : goal.invariant-loop
invariant-loop g l = KeepsClients g.T.ClientSocket.name l.fn.self l.self
