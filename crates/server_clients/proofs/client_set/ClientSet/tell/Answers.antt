use Rattle.std.proofs.Common.{inl, ap, refl, sym, ◌∙◌}
use Rattle.server_clients.proofs.Turns.{no_client, tells_at}
use Rattle.server_clients.proofs.client_set.ClientSet.tell.Goals as goal

pub returns-in-Some : goal.returns-in-Some
returns-in-Some g c =
    tells_at g.T.ClientSocket.name c.args.self.now.connections c.args.key c.args.ticket c.args.outcome c.in-Some.client.now c.tell.new.self _ _ c.in-Some.ensures.value c.tell.ensures

pub returns-in-None : goal.returns-in-None
returns-in-None g c = inl (no_client g.T.ClientSocket.name c.args.self.now.connections c.args.key (sym c.in-None.ensures.value), refl, refl)
