use Rattle.policy_core.proofs.Redactions.{rules_like}
use Rattle.policy_core.proofs.laws.rules_are_blind.Goals as goal

pub returns : goal.returns
returns g = λ m a b now c l is. rules_like m a b now c.caller c.op l is
