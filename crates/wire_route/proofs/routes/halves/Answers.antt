use Rattle.std.proofs.Common.{arith}
use Rattle.wire_route.proofs.Paths.{halved}
use Rattle.wire_route.proofs.routes.halves.Goals as goal

pub returns : goal.returns
returns c = halved c.args.rest.now c.split_once.result (c.split_once.ensures.byte (omega arith) (λ w o f. f))
