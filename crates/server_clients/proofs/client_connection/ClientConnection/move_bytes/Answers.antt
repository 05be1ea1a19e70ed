use Rattle.server_clients.proofs.Steps.{steps_then}
use Rattle.server_clients.proofs.client_connection.ClientConnection.move_bytes.Goals as goal

pub returns-then-is_done : goal.returns-then-is_done
returns-then-is_done g c = steps_then _ _ _ _ _ _ c.prepare.ensures c.end.ensures
