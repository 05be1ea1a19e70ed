use Rattle.server_clients.proofs.Sets.{clients_none}
use Rattle.server_clients.proofs.client_set.ClientSet.new.Goals as goal

pub returns : goal.returns
returns g c = clients_none g.T.ClientSocket.name c.in_ok-connections.connections c.in_ok-connections.ensures.empty
