use Rattle.entity_purge.proofs.Purges.{purge_keeps, purge_keeps_names}
use Rattle.entity_purge.proofs.laws.purge_keeps.Goals as goal

pub returns-clause-airspace : goal.returns-clause-airspace
returns-clause-airspace c = purge_keeps

pub returns-clause-names : goal.returns-clause-names
returns-clause-names c = purge_keeps_names
