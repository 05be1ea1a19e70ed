use Rattle.std.proofs.Common.{◌≡◌, [], ◌∷◌, ◌++◌, codes, refl, rules}
use Rattle.std.proofs.lemmas.Result.{on_ok_weaker}
use Rattle.json.specs.Token.{begin_object, end_object}
use Rattle.wire_reply.proofs.Tokens.{more, more_text}
use Rattle.wire_reply.proofs.answer.write_message.Goals as goal

pub returns-clause-adds : goal.returns-clause-adds
returns-clause-adds c =
    let old = c.args.out.now.tokens in
    let start : c.begin_object.new.self.tokens ≡ old ++ begin_object ∷ [] = search rules in
    let message = more_text old _ _ (codes "message") refl start c.in_ok-write_text.ensures.adds in
    on_ok_weaker c.end_object.result (λ e. more old _ _ (end_object ∷ []) message e) c.end_object.ensures.ok
