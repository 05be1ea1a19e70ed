use Rattle.std.proofs.Common.{is_err}
use Rattle.server_clients.proofs.Steps.{steps_to}
use Rattle.server_clients.proofs.client_connection.ClientConnection.tell.Goals as goal

pub returns-then-is_err : goal.returns-then-is_err
returns-then-is_err g c = (is_err c.tell.result, steps_to _ _ (g.N.Sockets.history c.args.sockets.now) c.tell.ensures)
