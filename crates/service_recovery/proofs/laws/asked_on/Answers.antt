use Rattle.service_recovery.proofs.Lives as lived
use Rattle.service_recovery.proofs.laws.asked_on.Goals as goal

pub returns : goal.returns
returns g c = λ old mid new calls more replies later first second. lived.asked_on _ old mid new calls more replies later first second
