use Rattle.std.proofs.Common.{◌≡◌, drop, map}
use Rattle.std.specs.List.{list_any}
use Rattle.toml.specs.View.{view}
use Rattle.token_check.specs.Summary.{has_uss}
use Rattle.token_check.proofs.summary.is_uss_of_any.Given as goal

abbrev pub invariant-loop-table : goal.invariant-loop-table
invariant-loop-table l =
    list_any (has_uss l.uss) (map view (drop l.table-index l.tables)) ≡ list_any (has_uss l.uss) (map view l.tables)
