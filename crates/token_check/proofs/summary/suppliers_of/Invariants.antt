use Rattle.std.proofs.Common.{◌≡◌, ◌≤◌, ◌+◌, drop, map}
use Rattle.toml.specs.View.{view}
use Rattle.token_check.specs.Summary.{suppliers_of}
use Rattle.token_check.proofs.summary.suppliers_of.Given as goal

abbrev pub invariant-loop-number : goal.invariant-loop-number
invariant-loop-number l = record {
  counted : l.count + suppliers_of (map view (drop l.number l.tables)) ≡ suppliers_of (map view l.tables);
  bound : l.count ≤ l.number;
}
