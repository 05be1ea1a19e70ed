use Rattle.pool_backend.proofs.Stories.{are_given}
use Rattle.pool_backend.proofs.laws.outcomes_are_given.Goals as goal

pub returns : goal.returns
returns g c = are_given _ g.L.Log g.S.Space
