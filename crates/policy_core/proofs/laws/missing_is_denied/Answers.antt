use Rattle.policy_core.proofs.Puts.{missing_denied}
use Rattle.policy_core.proofs.laws.missing_is_denied.Goals as goal

pub returns : goal.returns
returns g = λ a now c kind y. missing_denied a now c.caller c.op kind y
