use Rattle.std.proofs.Common.{◌∙◌, refl}
use Rattle.server_clients.proofs.Sets.{clients_kept}
use Rattle.server_clients.proofs.client_set.ClientSet.grant_large_buffer.Goals as goal

pub returns : goal.returns
returns g c = c.queue.ensures ∙ clients_kept g.T.ClientSocket.name c.args.self.now.connections c.args.key c.in-Some.client.now _ c.in-Some.ensures.value c.take_large_buffer.ensures

pub returns-then-not-wants_large_buffer : goal.returns-then-not-wants_large_buffer
returns-then-not-wants_large_buffer g c = clients_kept g.T.ClientSocket.name c.args.self.now.connections c.args.key c.in-Some.client.now c.in-Some.client.now c.in-Some.ensures.value refl

pub returns-then-not-may_take_large_buffer : goal.returns-then-not-may_take_large_buffer
returns-then-not-may_take_large_buffer g c = clients_kept g.T.ClientSocket.name c.args.self.now.connections c.args.key c.in-Some.client.now c.in-Some.client.now c.in-Some.ensures.value refl
