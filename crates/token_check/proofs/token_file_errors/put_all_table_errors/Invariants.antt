use Rattle.std.proofs.Common.{◌≡◌, ◌++◌, [], drop, map, take}
use Rattle.toml.specs.View.{view}
use Rattle.token_check.specs.TokenFileErrors.{errors_of_tables}
use Rattle.token_check.proofs.token_file_errors.put_all_table_errors.Given as goal

abbrev pub invariant-loop-number : goal.invariant-loop-number
invariant-loop-number l =
    l.found.items ++ errors_of_tables (map view (take l.number l.tables)) (map view (drop l.number l.tables))
    ≡ l.initial.found.items ++ errors_of_tables [] (map view l.tables)
