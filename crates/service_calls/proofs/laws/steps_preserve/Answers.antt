use Rattle.service_step.proofs.Preserves.{steps_keep}
use Rattle.service_calls.proofs.laws.steps_preserve.Goals as goal

pub returns : goal.returns
returns c = steps_keep
