use Rattle.wire_http.proofs.CallUnique.{one_call}
use Rattle.wire_http.proofs.laws.one_call.Goals as goal

pub returns : goal.returns
returns c = one_call
