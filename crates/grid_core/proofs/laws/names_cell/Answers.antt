use Rattle.grid_core.proofs.Named.{names_cell_lem}
use Rattle.grid_core.proofs.laws.names_cell.Goals as goal

pub returns : goal.returns
returns c = names_cell_lem
