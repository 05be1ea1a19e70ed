use Rattle.pool_backend.specs.Pool.{IsFailure}
use Rattle.pool_backend.proofs.Does.{does_none, does_then}
use Rattle.pool_backend.proofs.pool.PoolInstance.fail_late.Goals as goal

pub loop-init : goal.loop-init
loop-init g c = does_none g.L.Log g.S.Space IsFailure c.args.self.now

pub loop-preserved : goal.loop-preserved
loop-preserved g c = does_then g.L.Log g.S.Space IsFailure c.args.self.now c.loop.self c.fail.new.self c.loop.invariant c.fail.ensures
