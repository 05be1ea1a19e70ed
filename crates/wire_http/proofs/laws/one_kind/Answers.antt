use Rattle.wire_head.proofs.KindLaws.{one_kind}
use Rattle.wire_http.proofs.laws.one_kind.Goals as goal

pub returns : goal.returns
returns c = one_kind
