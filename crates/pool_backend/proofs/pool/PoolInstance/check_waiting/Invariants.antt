use Rattle.pool_backend.specs.Pool.{DoesBy, IsFailure}
use Rattle.pool_backend.proofs.pool.PoolInstance.check_waiting.Given as goal

abbrev pub invariant-loop : goal.invariant-loop
invariant-loop g l = DoesBy g.L.Log g.S.Space IsFailure l.fn.self l.self
