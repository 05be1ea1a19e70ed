use Rattle.entity_purge.proofs.Plain.{partly_plain}
use Rattle.entity_purge.proofs.laws.partly_purged_lacks_only_due.Goals as goal

pub returns : goal.returns
returns c = partly_plain
