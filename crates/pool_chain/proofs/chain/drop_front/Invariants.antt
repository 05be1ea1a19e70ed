use Rattle.std.proofs.Common.{◌≡◌, drop}
use Rattle.pool_chain.proofs.chain.drop_front.Given as goal

abbrev pub invariant-loop-dropped : goal.invariant-loop-dropped
invariant-loop-dropped l = l.digests.items ≡ drop l._dropped l.fn.digests.items
