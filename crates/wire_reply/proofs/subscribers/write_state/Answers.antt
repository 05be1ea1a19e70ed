use Rattle.std.proofs.Common.{◌≡◌, [], ◌∷◌, ◌++◌, codes, refl, rules}
use Rattle.std.proofs.lemmas.Result.{on_ok_weaker}
use Rattle.json.specs.Token.{begin_object, end_object}
use Rattle.wire_reply.proofs.Tokens.{more, more_number, more_text}
use Rattle.wire_reply.proofs.subscribers.write_state.Goals as goal

pub returns-clause-adds : goal.returns-clause-adds
returns-clause-adds c =
    let old = c.args.out.now.tokens in
    let start : c.begin_object.new.self.tokens ≡ old ++ begin_object ∷ [] = search rules in
    let index = more_number old _ _ (codes "notification_index") refl start c.in_ok-write_number.ensures.adds in
    let id = more_text old _ _ (codes "subscription_id") refl index c.in_ok-write_id.ensures.adds in
    on_ok_weaker c.end_object.result (λ e. more old _ _ (end_object ∷ []) id e) c.end_object.ensures.ok
