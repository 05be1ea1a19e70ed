use Rattle.pool_backend.specs.Pool.{IsFailure}
use Rattle.pool_backend.proofs.Does.{does_none}
use Rattle.pool_backend.proofs.pool.PoolInstance.fail_if_ended.Goals as goal

pub returns-then-not-is_ended : goal.returns-then-not-is_ended
returns-then-not-is_ended g c = does_none g.L.Log g.S.Space IsFailure c.args.self.now

pub returns : goal.returns
returns g c = c.fail_all.ensures
