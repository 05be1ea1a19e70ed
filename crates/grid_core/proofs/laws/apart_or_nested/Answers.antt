use Rattle.grid_core.proofs.IndexLaws.{apart_or_nested_lem}
use Rattle.grid_core.proofs.laws.apart_or_nested.Goals as goal

pub returns : goal.returns
returns c = apart_or_nested_lem
