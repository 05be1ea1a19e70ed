use Rattle.std.proofs.Common.{◌≡◌, ◌-◌, length, drop}
use Rattle.wire_head.specs.Rest.{has_line}
use Rattle.wire_head.proofs.rest.line_in.Given as goal

abbrev pub invariant-loop-at : goal.invariant-loop-at
invariant-loop-at l = has_line (drop l.at l.bytes) ≡ has_line l.bytes

abbrev pub decreases-loop-at : goal.decreases-loop-at
decreases-loop-at l = length l.bytes - l.at
