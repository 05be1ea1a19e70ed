use Rattle.pool_entry.proofs.Entries.{gives_its_operation_lem}
use Rattle.pool_entry.proofs.laws.gives_its_operation.Goals as goal

pub returns : goal.returns
returns c = gives_its_operation_lem
