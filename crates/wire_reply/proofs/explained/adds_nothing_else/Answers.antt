use Rattle.std.proofs.Common.{refl}
use Rattle.wire_reply.proofs.Explanations.{unexplained}
use Rattle.wire_reply.proofs.explained.adds_nothing_else.Goals as goal

pub returns : goal.returns
returns c = record { no_texts = λ reply. refl; other = unexplained }
