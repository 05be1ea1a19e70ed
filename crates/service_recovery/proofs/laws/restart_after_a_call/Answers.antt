use Rattle.service_recovery.proofs.Restarts.{restarts}
use Rattle.service_recovery.proofs.laws.restart_after_a_call.Goals as goal

pub returns : goal.returns
returns g c = λ old new now call reply last image next a goes whole content is left clean may finds sound. restarts _ old new now call reply last image next a goes whole content is left clean may finds sound
