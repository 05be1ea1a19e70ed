use Rattle.std.proofs.Common.{refl}
use Rattle.server_clients.proofs.Sets.{changes_at, changes_none}
use Rattle.server_clients.proofs.client_set.ClientSet.end_after.Goals as goal

pub returns-in-Some : goal.returns-in-Some
returns-in-Some g c = changes_at g.T.ClientSocket.name c.args.self.now.connections c.args.key c.in-Some.client.now c.end_after.new.self _ _ c.in-Some.ensures.value c.end_after.ensures

pub returns-in-None : goal.returns-in-None
returns-in-None g c = changes_none _ _ _ _ refl refl
