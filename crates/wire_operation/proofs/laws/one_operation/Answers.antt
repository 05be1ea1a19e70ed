use Rattle.wire_operation.proofs.Asked.{same_asked}
use Rattle.wire_operation.proofs.laws.one_operation.Goals as goal

pub returns : goal.returns
returns c = λ path method body op other x y. (same_asked path method body x.0 y.0 op other x.1 y.1).1
