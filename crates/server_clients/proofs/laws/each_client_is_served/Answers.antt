use Rattle.server_clients.proofs.Served.{each_is_served}
use Rattle.server_clients.proofs.laws.each_client_is_served.Goals as goal

pub returns : goal.returns
returns g c = each_is_served g.B.Backend g.M.Moments g.T.TokenSource
