use Rattle.service_recovery.proofs.Crashes.{crash_leaves}
use Rattle.service_recovery.proofs.laws.crash_after_a_call.Goals as goal

pub returns : goal.returns
returns g c = λ old new now call reply is. crash_leaves g.S.Store old new now call reply is
