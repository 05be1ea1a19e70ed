use Rattle.server.proofs.Rounds.{are_settled}
use Rattle.server.proofs.laws.rounds_are_settled.Goals as goal

pub returns : goal.returns
returns g c = are_settled g.B.Backend g.M.Moments g.T.TokenSource
