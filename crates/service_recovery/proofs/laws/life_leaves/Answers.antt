use Rattle.service_recovery.proofs.Lives as lived
use Rattle.service_recovery.proofs.laws.life_leaves.Goals as goal

pub returns : goal.returns
returns c = λ before after runs a stands lives. lived.life_leaves before after runs a stands lives
