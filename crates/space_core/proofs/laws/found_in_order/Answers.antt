use Rattle.space_core.proofs.Risings.{found_in_order}
use Rattle.space_core.proofs.laws.found_in_order.Goals as goal

pub returns : goal.returns
returns c = found_in_order
