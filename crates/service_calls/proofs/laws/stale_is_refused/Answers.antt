use Rattle.service_calls.proofs.Stales.{stale_step}
use Rattle.service_calls.proofs.laws.stale_is_refused.Goals as goal

pub returns : goal.returns
returns g = stale_step
