use Rattle.wire_route.proofs.Paths as paths
use Rattle.wire_route.proofs.laws.one_route.Goals as goal

pub returns : goal.returns
returns c = paths.one_route
