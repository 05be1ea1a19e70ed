use Rattle.wire_operation.proofs.Asked.{asked}
use Rattle.wire_operation.proofs.laws.each_gives.Goals as goal

pub returns : goal.returns
returns c = λ path method body. let a = asked path method body in (a.op, (a.endpoint, a.is))
