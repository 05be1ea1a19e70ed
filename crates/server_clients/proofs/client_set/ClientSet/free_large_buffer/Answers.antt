use Rattle.std.proofs.Common.{◌∙◌, refl}
use Rattle.server_clients.proofs.Sets.{clients_kept}
use Rattle.server_clients.proofs.client_set.ClientSet.free_large_buffer.Goals as goal

pub returns : goal.returns
returns g c = c.add_large_buffer.ensures ∙ clients_kept g.T.ClientSocket.name c.args.self.now.connections c.args.key c.in-Some.client.now c.return_large_buffer.new.self c.in-Some.ensures.value c.return_large_buffer.ensures

pub returns-then-not-can_return_large_buffer : goal.returns-then-not-can_return_large_buffer
returns-then-not-can_return_large_buffer g c = clients_kept g.T.ClientSocket.name c.args.self.now.connections c.args.key c.in-Some.client.now c.in-Some.client.now c.in-Some.ensures.value refl
