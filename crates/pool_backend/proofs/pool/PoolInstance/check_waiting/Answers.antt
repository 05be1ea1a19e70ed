use Rattle.std.proofs.Common.{false, refl}
use Rattle.pool_backend.specs.Pool.{IsFailure}
use Rattle.pool_backend.proofs.Does.{does_none, does_same, does_then}
use Rattle.pool_backend.proofs.pool.PoolInstance.check_waiting.Goals as goal

pub returns-then-not-self : goal.returns-then-not-self
returns-then-not-self g c = does_none g.L.Log g.S.Space IsFailure c.args.self.now

pub loop-init : goal.loop-init
loop-init g c = does_same g.L.Log g.S.Space IsFailure c.args.self.now (record c.args.self.now { is_unchecked = false }) (record { instance = refl; outcomes = refl })

pub loop-preserved : goal.loop-preserved
loop-preserved g c =
    does_then g.L.Log g.S.Space IsFailure c.args.self.now c.next_unassigned.new.self c.fail.new.self
    (does_then g.L.Log g.S.Space IsFailure c.args.self.now c.loop.self c.next_unassigned.new.self c.loop.invariant (does_same g.L.Log g.S.Space IsFailure c.loop.self c.next_unassigned.new.self c.next_unassigned.ensures))
    c.fail.ensures

pub returns-in_default : goal.returns-in_default
returns-in_default g c =
    does_then g.L.Log g.S.Space IsFailure c.args.self.now c.loop.self c.next_unassigned.new.self c.loop.invariant
    (does_same g.L.Log g.S.Space IsFailure c.loop.self c.next_unassigned.new.self c.next_unassigned.ensures)
