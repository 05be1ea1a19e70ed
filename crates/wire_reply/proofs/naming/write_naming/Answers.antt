use Rattle.std.proofs.Common.{◌++◌, codes, sym, ap, ◌∙◌}
use Rattle.std.proofs.lemmas.Result.{on_ok_weaker}
use Rattle.wire_body.specs.Naming.{naming_text}
use Rattle.wire_reply.specs.Tokens.{text_tokens}
use Rattle.wire_reply.proofs.naming.write_naming.Goals as goal

pub returns-in-Some-clause-adds : goal.returns-in-Some-clause-adds
returns-in-Some-clause-adds c =
    on_ok_weaker c.write_id.result
    (λ e. e ∙ ap (λ named. c.args.out.now.tokens ++ text_tokens (codes "subscription_id") (naming_text named)) (sym c.in-Some.is))
    c.write_id.ensures.adds

pub returns-in-None-clause-adds : goal.returns-in-None-clause-adds
returns-in-None-clause-adds c =
    on_ok_weaker c.write_text.result
    (λ e. e ∙ ap (λ named. c.args.out.now.tokens ++ text_tokens (codes "subscription_id") (naming_text named)) (sym c.in-None.is))
    c.write_text.ensures.adds
