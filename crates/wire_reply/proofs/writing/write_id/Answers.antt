use Rattle.std.proofs.Common.{◌++◌, ap, ◌∙◌}
use Rattle.std.proofs.lemmas.Result.{on_ok_weaker}
use Rattle.wire_reply.specs.Tokens.{text_tokens}
use Rattle.wire_reply.proofs.writing.write_id.Goals as goal

pub returns-clause-adds : goal.returns-clause-adds
returns-clause-adds c =
    on_ok_weaker c.write_text.result
    (λ e. e ∙ ap (λ text. c.args.out.now.tokens ++ text_tokens c.args.name.now text) (c.as_str.ensures.value ∙ c.in_ok-text.ensures.text))
    c.write_text.ensures.adds
