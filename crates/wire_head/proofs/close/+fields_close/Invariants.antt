use Rattle.std.proofs.Common.{length}
use Rattle.wire_head.proofs.close.+fields_close.Given as goal

abbrev pub decreases-fields_close : goal.decreases-fields_close
decreases-fields_close l = length l.fields.now
