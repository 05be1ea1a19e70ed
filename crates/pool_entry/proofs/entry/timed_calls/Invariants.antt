use Rattle.std.proofs.Common.{◌≡◌, map}
use Rattle.pool_entry.specs.Calls.{timed_call}
use Rattle.pool_entry.proofs.entry.timed_calls.Given as goal

abbrev pub invariant-loop-call : goal.invariant-loop-call
invariant-loop-call l = l.calls.items ≡ map timed_call l.yielded
