use Rattle.std.proofs.Common.{[], ◌∷◌}
use Rattle.std.proofs.lemmas.Result.{on_ok_weaker}
use Rattle.json.specs.Token.{end_object}
use Rattle.wire_reply.specs.Tokens.{tokens_of}
use Rattle.wire_reply.proofs.Tokens.{more}
use Rattle.wire_reply.specs.Built.{sub_data}
use Rattle.wire_reply.proofs.answer.write_sub_found.Goals as goal

pub returns-clause-adds : goal.returns-clause-adds
returns-clause-adds c =
    let old = c.args.out.now.tokens in
    let value = more old _ _ (tokens_of (sub_data c.args.sub.now)) c.in_ok-begin_with.ensures.adds c.in_ok-write_sub.ensures.adds in
    on_ok_weaker c.end_object.result (λ e. more old _ _ (end_object ∷ []) value e) c.end_object.ensures.ok
