use Rattle.std.proofs.Common.{refl}
use Rattle.grid_core.specs.Extent.{any_meet}
use Rattle.grid_core.proofs.Meets.{any_meet_test}
use Rattle.grid_core.proofs.laws.any_meet_is_relation.Goals as goal

pub returns : goal.returns
returns c es rs = any_meet_test es rs (any_meet es rs) refl
