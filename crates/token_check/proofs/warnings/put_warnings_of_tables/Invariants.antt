use Rattle.std.proofs.Common.{◌≡◌, ◌++◌, drop, map}
use Rattle.toml.specs.View.{view}
use Rattle.token_check.specs.Warnings.{warnings_of_tables}
use Rattle.token_check.proofs.warnings.put_warnings_of_tables.Given as goal

abbrev pub invariant-loop-number : goal.invariant-loop-number
invariant-loop-number l =
    l.found.items ++ warnings_of_tables l.number (map view (drop l.number l.tables))
    ≡ l.initial.found.items ++ warnings_of_tables 0 (map view l.tables)
