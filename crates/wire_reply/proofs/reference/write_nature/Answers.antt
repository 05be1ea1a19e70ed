use Rattle.std.proofs.Common.{◌++◌, codes, sym, ap, ◌∙◌}
use Rattle.std.proofs.lemmas.Result.{on_ok_weaker}
use Rattle.wire_body.specs.Naming.{naming_text}
use Rattle.wire_reply.specs.Tokens.{nature_tokens, text_tokens}
use Rattle.wire_reply.proofs.Tokens.{more}
use Rattle.wire_reply.proofs.reference.write_nature.Goals as goal

pub returns-in_ok-write_text-in-Intent-clause-adds : goal.returns-in_ok-write_text-in-Intent-clause-adds
returns-in_ok-write_text-in-Intent-clause-adds c =
    let old = c.args.out.now.tokens in
    let naming = text_tokens (codes "subscription_id") (naming_text c.in-Intent.named) in
    on_ok_weaker c.write_naming.result
    (λ e.
    more old (text_tokens (codes "state") c.name.result.now) c.write_text.new.out.tokens naming c.in_ok-write_text-in-Intent.ensures.adds e
    ∙ ap (λ name. old ++ (text_tokens (codes "state") name ++ naming)) c.name.ensures
    ∙ ap (λ nature. old ++ nature_tokens nature) (sym c.in-Intent.is))
    c.write_naming.ensures.adds
