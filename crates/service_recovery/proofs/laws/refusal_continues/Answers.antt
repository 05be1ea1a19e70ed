use Rattle.service_recovery.proofs.Lives.{refused}
use Rattle.service_recovery.proofs.laws.refusal_continues.Goals as goal

pub returns : goal.returns
returns g c = λ before after back fault last refuses left clean may. refused before back fault refuses after last left clean may
