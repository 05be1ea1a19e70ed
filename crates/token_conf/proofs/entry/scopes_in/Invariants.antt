use Rattle.std.proofs.Common.{◌≡◌, drop}
use Rattle.std.specs.Prelude.{option_map}
use Rattle.toml.specs.View.{items_view}
use Rattle.token_conf.specs.TokenFile.{scopes_named, texts_of}
use Rattle.token_conf.proofs.Scopes.{with_names}
use Rattle.token_conf.proofs.entry.scopes_in.Given as goal

abbrev pub invariant-loop-value : goal.invariant-loop-value
invariant-loop-value l =
    option_map (with_names l.scopes) (texts_of (items_view (drop l.value-index l.values))) ≡ option_map scopes_named (texts_of (items_view l.values))
