use Rattle.wire_body.proofs.Limits.{keeps_kind_lem}
use Rattle.wire_body.proofs.laws.keeps_kind.Goals as goal

pub returns : goal.returns
returns c = keeps_kind_lem
