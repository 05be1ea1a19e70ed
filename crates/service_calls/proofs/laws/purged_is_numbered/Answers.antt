use Rattle.service_calls.proofs.SegmentLaws.{purged_numbered}
use Rattle.service_calls.proofs.laws.purged_is_numbered.Goals as goal

pub returns : goal.returns
returns g c = purged_numbered g.S.GroupCommit
