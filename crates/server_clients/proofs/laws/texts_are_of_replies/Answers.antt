use Rattle.server_clients.proofs.Replies.{are_of_replies}
use Rattle.server_clients.proofs.laws.texts_are_of_replies.Goals as goal

pub returns : goal.returns
returns g c = are_of_replies g.B.Backend g.M.Moments g.T.TokenSource
