use Rattle.wire_body.proofs.Zero.{zero_text_lem}
use Rattle.wire_body.proofs.laws.zero_text.Goals as goal

pub returns : goal.returns
returns c = zero_text_lem
