use Rattle.pool_core.proofs.Known.{stale_refused}
use Rattle.pool_core.proofs.laws.pool_refuses_stale.Goals as goal

pub returns : goal.returns
returns c = stale_refused
