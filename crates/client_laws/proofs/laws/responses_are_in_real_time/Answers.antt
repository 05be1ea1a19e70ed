use Rattle.client_laws.proofs.RealTime.{are_in_real_time}
use Rattle.client_laws.proofs.laws.responses_are_in_real_time.Goals as goal

pub returns : goal.returns
returns g c = are_in_real_time g.S.GroupCommit _ g.M.Moments g.T.TokenSource
