use Rattle.service_recovery.proofs.Lives as lived
use Rattle.service_recovery.proofs.laws.life_is_found.Goals as goal

pub returns : goal.returns
returns g c = λ before after runs a next stands lives finds sound. lived.life_is_found _ before after runs a next stands lives finds sound
