use Rattle.entity_purge.proofs.Purges.{purge_exact}
use Rattle.entity_purge.proofs.laws.purge_is_exact.Goals as goal

pub returns : goal.returns
returns c = purge_exact
