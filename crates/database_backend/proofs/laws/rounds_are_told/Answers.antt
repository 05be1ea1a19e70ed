use Rattle.database_backend.proofs.Phases.{are_told}
use Rattle.database_backend.proofs.laws.rounds_are_told.Goals as goal

pub returns : goal.returns
returns g c = are_told g.S.Space g.S.GroupCommit
