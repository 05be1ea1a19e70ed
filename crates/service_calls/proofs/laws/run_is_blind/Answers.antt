use Rattle.service_calls.proofs.Blinds.{run_blind}
use Rattle.service_calls.proofs.laws.run_is_blind.Goals as goal

pub returns : goal.returns
returns c = run_blind
