use Rattle.std.proofs.Common.{[], ◌∷◌, ◌++◌, ap, ◌∙◌}
use Rattle.std.proofs.lemmas.Result.{on_ok_weaker}
use Rattle.json.specs.Token.{begin_object, end_object, key}
use Rattle.wire_reply.specs.Tokens.{tokens_of}
use Rattle.wire_reply.proofs.Tokens.{more}
use Rattle.wire_reply.specs.Built.{reference_data, subscribers_data}
use Rattle.wire_reply.specs.Reference.{reference_name}
use Rattle.wire_reply.proofs.Tokens.{changed-parts}
use Rattle.wire_reply.proofs.answer.write_changed.Goals as goal

pub returns-clause-adds : goal.returns-clause-adds
returns-clause-adds c =
    let r = c.args.reference.now in
    let old = c.args.out.now.tokens in
    let name = c.in_ok-begin_with.ensures.adds ∙ ap (λ n. old ++ begin_object ∷ key n ∷ []) (c.reference_name.ensures ∙ ap reference_name c.kind.ensures) in
    let value = more old _ _ (tokens_of (reference_data r)) name c.in_ok-write_reference.ensures.adds in
    let mid = c.write_reference.new.out.tokens in
    let named = c.in_ok-write_key.ensures.adds in
    let notices = more mid _ _ (tokens_of (subscribers_data c.args.notices.now)) named c.in_ok-write_subscribers.ensures.adds in
    on_ok_weaker c.end_object.result
    (λ e. more old _ _ _ value (more mid _ _ (end_object ∷ []) notices e) ∙ ap (λ ts. old ++ ts) (changed-parts r c.args.notices.now))
    c.end_object.ensures.ok
