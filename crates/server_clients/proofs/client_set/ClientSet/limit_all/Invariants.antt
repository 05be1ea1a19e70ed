use Rattle.server_clients.specs.ClientSet.{ChangesUnseen, LimitsBelow, clients_of}
use Rattle.server_clients.proofs.client_set.ClientSet.limit_all.Given as goal

abbrev pub invariant-loop-key : goal.invariant-loop-key
invariant-loop-key g l = ChangesUnseen g.T.ClientSocket.name l.fn.self l.self × LimitsBelow l.key (clients_of g.T.ClientSocket.name l.fn.self) (clients_of g.T.ClientSocket.name l.self)
