use Rattle.server_clients.specs.declared.reason.Reason.TheVariants.{Reset}
use Rattle.server_clients.proofs.Steps.{stopped_once}
use Rattle.server_clients.proofs.client_connection.ClientConnection.move_on.Goals as goal

pub returns-then-self : goal.returns-then-self
returns-then-self g c = stopped_once _ _ Reset (g.N.Sockets.history c.args.sockets.now) c.abort.ensures
