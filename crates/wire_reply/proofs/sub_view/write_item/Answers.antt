use Rattle.std.proofs.Common.{[], ◌∷◌, ◌++◌, ap, ◌∙◌}
use Rattle.std.proofs.lemmas.Result.{on_ok_weaker}
use Rattle.json.specs.Token.{string}
use Rattle.wire_reply.proofs.sub_view.write_item.Goals as goal

pub returns-clause-adds : goal.returns-clause-adds
returns-clause-adds c =
    on_ok_weaker c.string.result
    (λ e. e ∙ ap (λ text. c.args.out.now.tokens ++ string text ∷ []) (c.as_str.ensures.value ∙ c.in_ok-text.ensures.text))
    c.string.ensures.ok
