use Rattle.server_clients.proofs.Sets.{clients_added}
use Rattle.server_clients.proofs.client_set.ClientSet.insert.Goals as goal

pub returns : goal.returns
returns g c =
    clients_added g.T.ClientSocket.name c.args.self.now.connections c.insert.new.self c.in-Ok.key (g.T.ClientSocket.name c.args.socket) c.new-client.result _
    c.in-Ok.ensures.was_vacant c.in-Ok.ensures.updates c.new-client.ensures c.queue.ensures
