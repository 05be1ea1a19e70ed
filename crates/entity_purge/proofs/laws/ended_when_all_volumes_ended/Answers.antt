use Rattle.entity_purge.proofs.Purges.{ended_all}
use Rattle.entity_purge.proofs.laws.ended_when_all_volumes_ended.Goals as goal

pub returns : goal.returns
returns c = ended_all
