use Rattle.server_clients.proofs.Turns.{AreLeft}
use Rattle.server_clients.proofs.client_set.ClientSet.find_ticket.Given as goal

abbrev pub invariant-loop-entry : goal.invariant-loop-entry
invariant-loop-entry g l = AreLeft g.T.ClientSocket.name l.fn.ticket l.fn.self.connections l.entry-iterator
