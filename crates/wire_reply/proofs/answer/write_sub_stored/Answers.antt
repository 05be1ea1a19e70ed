use Rattle.std.proofs.Common.{[], ◌∷◌}
use Rattle.std.proofs.lemmas.Result.{on_ok_weaker}
use Rattle.json.specs.Token.{end_object}
use Rattle.wire_reply.specs.Tokens.{tokens_of}
use Rattle.wire_reply.proofs.Tokens.{more}
use Rattle.wire_reply.specs.Built.{references_data, sub_data}
use Rattle.wire_reply.proofs.answer.write_sub_stored.Goals as goal

pub returns-clause-adds : goal.returns-clause-adds
returns-clause-adds c =
    let old = c.args.out.now.tokens in
    let constraints = more old _ _ (tokens_of (references_data c.args.constraints.now)) c.in_ok-begin_with.ensures.adds c.in_ok-write_references.ensures.adds in
    let first = c.write_references.new.out.tokens in
    let named = c.in_ok-write_key.ensures.adds in
    let intents = more first _ _ (tokens_of (references_data c.args.intents.now)) named c.in_ok-write_references-2.ensures.adds in
    let second = c.write_references-2.new.out.tokens in
    let named_sub = c.in_ok-write_key-2.ensures.adds in
    let sub = more second _ _ (tokens_of (sub_data c.args.sub.now)) named_sub c.in_ok-write_sub.ensures.adds in
    on_ok_weaker c.end_object.result
    (λ e. more old _ _ _ constraints (more first _ _ _ intents (more second _ _ (end_object ∷ []) sub e)))
    c.end_object.ensures.ok
