use Rattle.std.proofs.Common.{◌≡◌, drop, map}
use Rattle.std.specs.List.{position_from}
use Rattle.toml.specs.View.{view}
use Rattle.token_check.specs.TokenFileErrors.{has_text}
use Rattle.token_check.proofs.token_file_errors.holder_of.Given as goal

abbrev pub invariant-loop-number : goal.invariant-loop-number
invariant-loop-number l =
    position_from (has_text l.text) l.number (map view (drop l.number l.tables))
    ≡ position_from (has_text l.text) 0 (map view l.tables)
