use Rattle.std.proofs.Common.{length}
use Rattle.wire_head.proofs.fields.+only.Given as goal

abbrev pub decreases-only : goal.decreases-only
decreases-only l = length l.fields.now
