use Rattle.server_clients.proofs.Steps.{steps_then}
use Rattle.server_clients.proofs.client_connection.ClientConnection.prepare.Goals as goal

pub returns : goal.returns
returns g c = steps_then _ _ _ _ _ _ c.send_pending.ensures c.receive.ensures
