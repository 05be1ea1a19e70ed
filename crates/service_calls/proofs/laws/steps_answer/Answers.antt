use Rattle.service_step.proofs.Decided.{steps_answer}
use Rattle.service_calls.proofs.laws.steps_answer.Goals as goal

pub returns : goal.returns
returns c = steps_answer
