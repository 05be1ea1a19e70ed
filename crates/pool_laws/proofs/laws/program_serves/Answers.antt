use Rattle.pool_laws.proofs.Program.{program_serves}
use Rattle.pool_laws.proofs.laws.program_serves.Goals as goal

pub returns : goal.returns
returns g c = program_serves g.L.Log g.S.Space _ g.M.Moments g.T.TokenSource
