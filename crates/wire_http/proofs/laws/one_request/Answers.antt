use Rattle.wire_http.proofs.CallUnique.{one_request}
use Rattle.wire_http.proofs.laws.one_request.Goals as goal

pub returns : goal.returns
returns c = one_request
