use Rattle.policy_core.proofs.Puts.{puts_know}
use Rattle.policy_core.proofs.laws.puts_know.Goals as goal

pub returns : goal.returns
returns g = λ a now c id put y. puts_know a now c.caller c.op id put y
