use Rattle.server_clients.proofs.Backends.{are_the_backends}
use Rattle.server_clients.proofs.laws.events_are_the_backends.Goals as goal

pub returns : goal.returns
returns g c = are_the_backends g.B.Backend g.M.Moments g.T.TokenSource
