use Rattle.database_backend.proofs.Purges.{are_plausible}
use Rattle.database_backend.proofs.laws.purges_are_plausible.Goals as goal

pub returns : goal.returns
returns g c = are_plausible g.S.Space g.S.GroupCommit
