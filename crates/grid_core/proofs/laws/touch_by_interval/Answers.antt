use Rattle.grid_core.proofs.IndexLaws.{touch_by_interval_lem}
use Rattle.grid_core.proofs.laws.touch_by_interval.Goals as goal

pub returns : goal.returns
returns c = touch_by_interval_lem
