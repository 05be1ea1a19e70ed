use Rattle.std.proofs.Common.{[], ◌∷◌, ◌++◌, ap, ◌∙◌}
use Rattle.std.proofs.lemmas.Result.{on_ok_weaker}
use Rattle.json.specs.Token.{begin_object, end_object, key}
use Rattle.wire_reply.specs.Tokens.{tokens_of}
use Rattle.wire_reply.proofs.Tokens.{more}
use Rattle.wire_reply.specs.Built.{reference_data}
use Rattle.wire_reply.specs.Reference.{reference_name}
use Rattle.wire_reply.proofs.answer.write_found.Goals as goal

pub returns-clause-adds : goal.returns-clause-adds
returns-clause-adds c =
    let r = c.args.reference.now in
    let old = c.args.out.now.tokens in
    let name = c.in_ok-begin_with.ensures.adds ∙ ap (λ n. old ++ begin_object ∷ key n ∷ []) (c.reference_name.ensures ∙ ap reference_name c.kind.ensures) in
    let value = more old _ _ (tokens_of (reference_data r)) name c.in_ok-write_reference.ensures.adds in
    on_ok_weaker c.end_object.result (λ e. more old _ _ (end_object ∷ []) value e) c.end_object.ensures.ok
