use Rattle.entity_purge.proofs.Purges.{purges_join}
use Rattle.entity_purge.proofs.laws.purges_join.Goals as goal

pub returns : goal.returns
returns c = purges_join
