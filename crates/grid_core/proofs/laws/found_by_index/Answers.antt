use Rattle.grid_core.proofs.IndexLaws.{found_by_index_lem}
use Rattle.grid_core.proofs.laws.found_by_index.Goals as goal

pub returns : goal.returns
returns c = found_by_index_lem
