use Rattle.server_clients.proofs.Sets.{clients_kept}
use Rattle.server_clients.proofs.client_set.ClientSet.record_response.Goals as goal

pub returns-in_default-take_response : goal.returns-in_default-take_response
returns-in_default-take_response g c = clients_kept g.T.ClientSocket.name c.args.self.now.connections c.args.key c.in-Some.client.now c.take_response.new.self c.in-Some.ensures.value c.take_response.ensures

pub returns : goal.returns
returns g c = clients_kept g.T.ClientSocket.name c.args.self.now.connections c.args.key c.in-Some.client.now c.take_response.new.self c.in-Some.ensures.value c.take_response.ensures
