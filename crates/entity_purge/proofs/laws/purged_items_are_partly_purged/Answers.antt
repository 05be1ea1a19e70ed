use Rattle.entity_purge.proofs.PurgeItems.{gone_purged}
use Rattle.entity_purge.proofs.laws.purged_items_are_partly_purged.Goals as goal

pub returns : goal.returns
returns c = gone_purged
