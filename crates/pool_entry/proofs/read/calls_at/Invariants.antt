use Rattle.std.proofs.Common.{◌≡◌, ◌-◌}
use Rattle.pool_entry.specs.Reading.{calls_at}
use Rattle.pool_entry.proofs.Loop.{with_front}
use Rattle.pool_entry.proofs.read.calls_at.Given as goal

abbrev pub invariant-loop-index : goal.invariant-loop-index
invariant-loop-index l =
    with_front l.calls.items (calls_at (64 - l.index) l.index l.rest) ≡ calls_at 64 0 l.bytes
