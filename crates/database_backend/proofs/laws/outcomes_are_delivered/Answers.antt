use Rattle.database_backend.proofs.Stories.{are_delivered}
use Rattle.database_backend.proofs.laws.outcomes_are_delivered.Goals as goal

pub returns : goal.returns
returns g c = are_delivered g.S.Space g.S.GroupCommit
