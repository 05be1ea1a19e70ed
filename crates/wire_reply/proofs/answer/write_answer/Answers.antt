use Rattle.std.proofs.Common.{◌++◌, sym, ap, ◌∙◌}
use Rattle.std.proofs.lemmas.Result.{on_ok_weaker}
use Rattle.wire_reply.specs.Built.{answer_data}
use Rattle.wire_reply.specs.Tokens.{tokens_of}
use Rattle.wire_reply.proofs.answer.write_answer.Goals as goal

pub returns-in-SubFound-clause-adds : goal.returns-in-SubFound-clause-adds
returns-in-SubFound-clause-adds c =
    on_ok_weaker c.write_sub_found.result
    (λ e. e ∙ ap (λ answer. c.args.out.now.tokens ++ tokens_of (answer_data answer)) (sym c.in-SubFound.is))
    c.write_sub_found.ensures.adds
