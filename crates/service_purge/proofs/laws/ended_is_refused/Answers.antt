use Rattle.service_purge.proofs.Ended.{ended_refused}
use Rattle.service_purge.proofs.laws.ended_is_refused.Goals as goal

pub returns : goal.returns
returns c = ended_refused
