use Rattle.pool_backend.specs.Pool.{IsSame}
use Rattle.pool_backend.proofs.pool.PoolInstanceBackend.next_due.Given as goal

abbrev pub invariant-loop : goal.invariant-loop
invariant-loop g l = IsSame l.fn.self l.self
