use Rattle.std.specs.Prelude.{Bool, Option, ℕ}
use Rattle.pool_backend.specs.Pool.{DoesBy, MayDo, retention_of}
use Rattle.pool_backend.proofs.pool.PoolInstance.take_entries.Given as goal

abbrev pub invariant-loop-count : goal.invariant-loop-count
invariant-loop-count g l = (moment : Option ℕ) (held : Bool) → DoesBy g.L.Log g.S.Space (MayDo (retention_of l.fn.self) moment held) l.fn.self l.self
