use Rattle.std.specs.Prelude.{Bool, Option, ℕ}
use Rattle.pool_backend.specs.Own.{DoesOwn}
use Rattle.pool_backend.proofs.pool.learn_ends.Given as goal

abbrev pub invariant-loop-count : goal.invariant-loop-count
invariant-loop-count g l = (moment : Option ℕ) (held : Bool) → DoesOwn g.L.Log g.S.Space moment held l.fn.instance l.instance
