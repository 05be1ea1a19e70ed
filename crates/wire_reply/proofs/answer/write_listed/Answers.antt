use Rattle.std.proofs.Common.{[], ◌∷◌, ◌++◌, ap, ◌∙◌}
use Rattle.std.proofs.lemmas.Result.{on_ok_weaker}
use Rattle.json.specs.Token.{begin_object, end_object, key}
use Rattle.wire_reply.specs.Tokens.{tokens_of}
use Rattle.wire_reply.proofs.Tokens.{more}
use Rattle.wire_reply.specs.Built.{references_data}
use Rattle.wire_reply.proofs.answer.write_listed.Goals as goal

pub returns-clause-adds : goal.returns-clause-adds
returns-clause-adds c =
    let old = c.args.out.now.tokens in
    let name = c.in_ok-begin_with.ensures.adds ∙ ap (λ n. old ++ begin_object ∷ key n ∷ []) c.references_name.ensures in
    let value = more old _ _ (tokens_of (references_data c.args.references.now)) name c.in_ok-write_references.ensures.adds in
    on_ok_weaker c.end_object.result (λ e. more old _ _ (end_object ∷ []) value e) c.end_object.ensures.ok
