use Rattle.std.proofs.Common.{◌∙◌}
use Rattle.server_clients.proofs.Sets.{clients_kept}
use Rattle.server_clients.proofs.client_set.ClientSet.note.Goals as goal

pub returns : goal.returns
returns g c = c.queue.ensures ∙ clients_kept g.T.ClientSocket.name c.args.self.now.connections c.args.key c.in-Some.client.now c.note.new.self c.in-Some.ensures.value c.note.ensures
