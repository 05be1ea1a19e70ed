use Rattle.std.proofs.Common.{◌≡◌, ◌++◌}
use Rattle.toml.specs.View.{members_view}
use Rattle.token_check.specs.Warnings.{warnings_of_keys}
use Rattle.token_check.proofs.warnings.put_warnings_of_keys.Given as goal

abbrev pub invariant-loop-key : goal.invariant-loop-key
invariant-loop-key l =
    l.found.items ++ warnings_of_keys l.place (members_view l.key-iterator)
    ≡ l.initial.found.items ++ warnings_of_keys l.place (members_view l.table.entries)
