use Rattle.service_recovery.proofs.Lives.{served}
use Rattle.service_recovery.proofs.laws.run_continues.Goals as goal

pub returns : goal.returns
returns g c = λ before after old new calls replies last goes finds asked left clean may. served before old new calls replies goes finds asked after last left clean may
