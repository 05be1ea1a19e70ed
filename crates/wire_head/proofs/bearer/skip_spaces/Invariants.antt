use Rattle.std.proofs.Common.{◌≡◌, length}
use Rattle.wire_head.specs.Bearer.{skip_spaces}
use Rattle.wire_head.proofs.bearer.skip_spaces.Given as goal

abbrev pub invariant-skipping : goal.invariant-skipping
invariant-skipping l = skip_spaces l.left ≡ skip_spaces l.bytes

abbrev pub decreases-skipping : goal.decreases-skipping
decreases-skipping l = length l.left
