use Rattle.std.proofs.Common.{sym, ◌∙◌}
use Rattle.std.proofs.lemmas.Bool.{eqb-true}
use Rattle.server_clients.proofs.Turns.{no_clients_in}
use Rattle.server_clients.proofs.client_set.ClientSet.is_empty.Goals as goal

pub returns : goal.returns
returns g c = λ empty key. no_clients_in g.T.ClientSocket.name c.args.self.now.connections (eqb-true _ 0 (sym c.is_empty.ensures ∙ empty)) key
