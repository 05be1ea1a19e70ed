use Rattle.std.proofs.Common.{◌≡◌, length}
use Rattle.wire_head.specs.Rest.{skip_ends}
use Rattle.wire_head.proofs.rest.skip_ends.Given as goal

abbrev pub invariant-skipping : goal.invariant-skipping
invariant-skipping l = skip_ends l.left ≡ skip_ends l.bytes

abbrev pub decreases-skipping : goal.decreases-skipping
decreases-skipping l = length l.left
