use Rattle.std.proofs.Common.{refl}
use Rattle.pool_backend.proofs.pool.PoolInstanceBackend.next_outcome.Goals as goal

pub returns-in-Some : goal.returns-in-Some
returns-in-Some g c = (refl, c.in-Some.ensures)

pub returns-in-None : goal.returns-in-None
returns-in-None g c = (c.in-None.ensures.0, record { instance = refl; outcomes = c.in-None.ensures.1 })
