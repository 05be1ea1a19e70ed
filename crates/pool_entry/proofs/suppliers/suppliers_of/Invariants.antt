use Rattle.std.proofs.Common.{◌≡◌, map}
use Rattle.pool_entry.specs.Suppliers.{supplier_of}
use Rattle.pool_entry.proofs.suppliers.suppliers_of.Given as goal

abbrev pub invariant-loop-call : goal.invariant-loop-call
invariant-loop-call l = l.suppliers.items ≡ map supplier_of l.yielded
