use Rattle.service_purge.proofs.Known.{segments_aware}
use Rattle.service_purge.proofs.laws.segments_are_aware.Goals as goal

pub returns : goal.returns
returns g c = segments_aware g.S.GroupCommit
