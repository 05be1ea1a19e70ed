use Rattle.std.proofs.Common.{refl}
use Rattle.server_clients.proofs.Sets.{clients_kept}
use Rattle.server_clients.proofs.client_set.ClientSet.count_for_class.Goals as goal

pub returns : goal.returns
returns g c = clients_kept g.T.ClientSocket.name c.args.self.now.connections c.args.key c.in-Some.client.now _ c.in-Some.ensures.value refl
