use Rattle.std.proofs.Common.{◌≡◌, drop}
use Rattle.std.specs.Prelude.{is_some}
use Rattle.toml.specs.View.{items_view}
use Rattle.token_conf.specs.TokenFile.{texts_of}
use Rattle.token_check.proofs.table.are_texts.Given as goal

abbrev pub invariant-loop-value : goal.invariant-loop-value
invariant-loop-value l =
    is_some (texts_of (items_view (drop l.value-index l.values))) ≡ is_some (texts_of (items_view l.values))
