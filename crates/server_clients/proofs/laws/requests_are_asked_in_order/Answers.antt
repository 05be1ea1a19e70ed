use Rattle.server_clients.proofs.CallOrders.{asked_in_order}
use Rattle.server_clients.proofs.laws.requests_are_asked_in_order.Goals as goal

pub returns : goal.returns
returns g c = asked_in_order g.B.Backend g.M.Moments g.T.TokenSource
