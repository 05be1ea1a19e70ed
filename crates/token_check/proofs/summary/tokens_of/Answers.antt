use Rattle.std.proofs.Common.{[], Option, map, sym, ap, ◌∙◌}
use Rattle.std.specs.Option.{option_map_or}
use Rattle.toml.specs.Data.{Items}
use Rattle.toml.specs.View.{view}
use Rattle.token_check.specs.TokenFileErrors.{tables_of}
use Rattle.token_check.proofs.Found.{tables_of_items}
use Rattle.token_check.proofs.summary.tokens_of.Goals as goal

pub returns-in-Some : goal.returns-in-Some
returns-in-Some c =
    ap (map view) c.as_slice.ensures.value
    ∙ sym (tables_of_items (map view c.in-Some.tables.now.items))
    ∙ ap (λ (o : Option Items). option_map_or tables_of o []) c.in-Some.ensures
