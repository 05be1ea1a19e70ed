use Rattle.std.proofs.Common.{refl}
use Rattle.server_clients.proofs.Sets.{clients_kept}
use Rattle.server_clients.proofs.client_set.ClientSet.queue.Goals as goal

pub returns : goal.returns
returns g c = clients_kept g.T.ClientSocket.name c.args.self.now.connections c.args.key c.in-Some.client.now c.set_queued.new.self c.in-Some.ensures.value c.set_queued.ensures

pub returns-then-is_queued : goal.returns-then-is_queued
returns-then-is_queued g c = clients_kept g.T.ClientSocket.name c.args.self.now.connections c.args.key c.in-Some.client.now c.in-Some.client.now c.in-Some.ensures.value refl
