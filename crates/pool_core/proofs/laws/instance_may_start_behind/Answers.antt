use Rattle.pool_core.proofs.Starts.{may_start_behind}
use Rattle.pool_core.proofs.laws.instance_may_start_behind.Goals as goal

pub returns : goal.returns
returns c = may_start_behind
