use Rattle.service_calls.proofs.Alike.{own_call}
use Rattle.service_calls.proofs.laws.call_is_blind.Goals as goal

pub returns : goal.returns
returns g = λ salt m a b now c l is k. own_call salt m a b now c.caller c.op l is k
