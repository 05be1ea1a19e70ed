use Rattle.wire_reply.proofs.Explanations.{adds_one}
use Rattle.wire_reply.proofs.explained.adds_one_member.Goals as goal

pub returns : goal.returns
returns c = adds_one
