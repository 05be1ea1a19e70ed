use Rattle.pool_backend.proofs.Stories.{are_the_pools}
use Rattle.pool_backend.proofs.laws.events_are_the_pools.Goals as goal

pub returns : goal.returns
returns g c = are_the_pools _ g.L.Log g.S.Space
