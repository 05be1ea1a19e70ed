use Rattle.pool_core.proofs.Law.{pool_law}
use Rattle.pool_core.proofs.laws.pool_is_one_list.Goals as goal

pub returns : goal.returns
returns c = pool_law
