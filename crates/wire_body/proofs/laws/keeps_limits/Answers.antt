use Rattle.wire_body.proofs.Limits.{keeps_limits_lem}
use Rattle.wire_body.proofs.laws.keeps_limits.Goals as goal

pub returns : goal.returns
returns c = keeps_limits_lem
