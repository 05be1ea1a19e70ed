use Rattle.service_recovery.proofs.Lives.{refused_closed}
use Rattle.service_recovery.proofs.laws.closed_refusal_continues.Goals as goal

pub returns : goal.returns
returns g c = λ before after back fault files refuses closes clean have. refused_closed before back fault refuses after files closes clean have
