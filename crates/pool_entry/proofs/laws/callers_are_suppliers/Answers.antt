use Rattle.pool_entry.proofs.Callers.{callers_are_suppliers_lem}
use Rattle.pool_entry.proofs.laws.callers_are_suppliers.Goals as goal

pub returns : goal.returns
returns c = callers_are_suppliers_lem
