use Rattle.pool_core.proofs.Unseen.{purges_unseen}
use Rattle.pool_core.proofs.laws.purges_are_unseen.Goals as goal

pub returns : goal.returns
returns c = purges_unseen
