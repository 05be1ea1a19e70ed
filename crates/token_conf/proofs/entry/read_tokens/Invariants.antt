use Rattle.std.proofs.Common.{◌≡◌, drop}
use Rattle.std.specs.FinMap.{empty}
use Rattle.toml.specs.View.{items_view}
use Rattle.token_conf.specs.TokenFile.{callers_after, callers_in}
use Rattle.token_conf.proofs.entry.read_tokens.Given as goal

abbrev pub invariant-loop-value : goal.invariant-loop-value
invariant-loop-value l =
    callers_after (items_view (drop l.value-index l.values)) (callers_in l.tokens.items) ≡ callers_after (items_view l.values) empty
