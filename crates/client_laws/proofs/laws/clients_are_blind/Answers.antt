use Rattle.client_laws.proofs.Blind.{are_blind}
use Rattle.client_laws.proofs.laws.clients_are_blind.Goals as goal

pub returns : goal.returns
returns g c = are_blind g.S.GroupCommit _ g.M.Moments g.T.TokenSource
