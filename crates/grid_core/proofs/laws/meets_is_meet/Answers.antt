use Rattle.std.proofs.Common.{refl}
use Rattle.grid_core.specs.Extent.{meets}
use Rattle.grid_core.proofs.Meets.{meet_test}
use Rattle.grid_core.proofs.laws.meets_is_meet.Goals as goal

pub returns : goal.returns
returns c a b = meet_test a b (meets a b) refl
