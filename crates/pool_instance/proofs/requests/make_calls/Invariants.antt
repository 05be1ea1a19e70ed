use Rattle.std.proofs.Common.{take}
use Rattle.pool_instance.proofs.Made.{KeptSome}
use Rattle.pool_instance.proofs.requests.make_calls.Given as goal

abbrev pub invariant-loop-timed : goal.invariant-loop-timed
invariant-loop-timed g l = KeptSome g.S.Space l.is_own l.fn.service (take l.timed-index l.calls) l.service l.kept.items
