use Rattle.std.specs.Prelude.{length}
use Rattle.test_simulation.proofs.record.+is_new.Given as goal

abbrev pub decreases-is_new : goal.decreases-is_new
decreases-is_new l = length l.events.now
