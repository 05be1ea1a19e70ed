use Rattle.std.proofs.Common.{◌≡◌, ◌++◌, drop}
use Rattle.toml.specs.View.{items_view}
use Rattle.token_check.specs.Warnings.{warnings_of_names}
use Rattle.token_check.proofs.warnings.put_warnings_of_names.Given as goal

abbrev pub invariant-loop-value : goal.invariant-loop-value
invariant-loop-value l =
    l.found.items ++ warnings_of_names l.number (items_view (drop l.value-index l.values))
    ≡ l.initial.found.items ++ warnings_of_names l.number (items_view l.values)
