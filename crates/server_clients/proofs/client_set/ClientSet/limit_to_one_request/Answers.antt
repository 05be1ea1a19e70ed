use Rattle.server_clients.proofs.Sets.{clients_limited}
use Rattle.server_clients.proofs.client_set.ClientSet.limit_to_one_request.Goals as goal

pub returns-in-Some : goal.returns-in-Some
returns-in-Some g c = clients_limited g.T.ClientSocket.name c.args.self.now.connections c.args.key c.in-Some.client.now c.limit_to_one_request.new.self c.in-Some.ensures.value c.limit_to_one_request.ensures
