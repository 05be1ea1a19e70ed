use Rattle.service_recovery.proofs.Lives.{closed}
use Rattle.service_recovery.proofs.laws.closed_run_continues.Goals as goal

pub returns : goal.returns
returns g c = λ before after old new calls replies files goes finds asked closes clean have. closed before old new calls replies goes finds asked after files closes clean have
