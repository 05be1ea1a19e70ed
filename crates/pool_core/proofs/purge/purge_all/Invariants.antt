use Rattle.pool_core.proofs.Purges.{PurgesSome}
use Rattle.pool_core.proofs.purge.purge_all.Given as goal

abbrev pub invariant-loop-chunk : goal.invariant-loop-chunk
invariant-loop-chunk g l = PurgesSome g.S.Space l.until l.fn.service l.service
