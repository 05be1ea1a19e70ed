use Rattle.std.proofs.Common.{refl}
use Rattle.server_clients.proofs.Sets.{changes_at_from, changes_none}
use Rattle.server_clients.proofs.client_set.ClientSet.move_on.Goals as goal

pub returns-in-Some : goal.returns-in-Some
returns-in-Some g c =
    changes_at_from g.T.ClientSocket.name c.args.self.now.connections c.args.key c.in-Some.client.now c.set_queued.new.self c.move_on.new.self _ _ c.in-Some.ensures.value c.set_queued.ensures c.move_on.ensures

pub returns-in-None : goal.returns-in-None
returns-in-None g c = changes_none _ _ _ _ refl refl
