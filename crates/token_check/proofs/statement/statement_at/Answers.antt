use Rattle.std.proofs.Common.{◌≡◌, sym, ap, ap₂, ◌∙◌}
use Rattle.toml_parser.specs.Lexical.{skip_ws}
use Rattle.toml_parser.specs.Reading.{key_view}
use Rattle.toml_parser.specs.Strings.{key}
use Rattle.token_check.specs.Statement.{from, width_of}
use Rattle.token_check.proofs.statement.statement_at.Goals as goal

pub returns-in_ok-name-in-Ok : goal.returns-in_ok-name-in-Ok
returns-in_ok-name-in-Ok c =
    let here : c.in-Some-text_from.from.now ≡ from (width_of c.form_of-form.result) (from c.args.at c.args.text.now) = c.in-Some-text_from.ensures ∙ ap₂ from c.width_of.ensures c.in-Some.ensures in (
      key_view c.in-Ok.key,
      c.in-Ok.after.now,
      ap key (ap skip_ws (sym here) ∙ sym c.skip_ws.ensures.rest) ∙ c.in-Ok.ensures.value,
      c.in_ok-name-in-Ok.ensures,
    )
