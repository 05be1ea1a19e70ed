use Rattle.std.proofs.Common.{◌≡◌, [], ◌∷◌, ◌++◌, codes, refl, rules}
use Rattle.std.proofs.lemmas.Result.{on_ok_weaker}
use Rattle.json.specs.Token.{begin_object, end_object}
use Rattle.wire_reply.specs.Tokens.{tokens_of}
use Rattle.wire_reply.proofs.Tokens.{more, more_text}
use Rattle.wire_reply.specs.Built.{references_data}
use Rattle.wire_reply.proofs.answer.write_missing.Goals as goal

pub returns-clause-adds : goal.returns-clause-adds
returns-clause-adds c =
    let old = c.args.out.now.tokens in
    let start : c.begin_object.new.self.tokens ≡ old ++ begin_object ∷ [] = search rules in
    let message = more_text old _ _ (codes "message") refl start c.in_ok-write_text.ensures.adds in
    let named = c.in_ok-write_key.ensures.adds in
    let constraints = more old _ _ (tokens_of (references_data c.args.missing.now.constraints)) (more old _ _ _ message named) c.in_ok-write_references.ensures.adds in
    let first = c.write_references.new.out.tokens in
    let named_intents = c.in_ok-write_key-2.ensures.adds in
    let intents = more first _ _ (tokens_of (references_data c.args.missing.now.intents)) named_intents c.in_ok-write_references-2.ensures.adds in
    on_ok_weaker c.end_object.result
    (λ e. more old _ _ _ constraints (more first _ _ (end_object ∷ []) intents e))
    c.end_object.ensures.ok
