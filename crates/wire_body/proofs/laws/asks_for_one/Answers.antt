use Rattle.wire_body.proofs.OneBody.{asks_for_one_lem}
use Rattle.wire_body.proofs.laws.asks_for_one.Goals as goal

pub returns : goal.returns
returns c = asks_for_one_lem
