use Rattle.std.proofs.Common.{◌≡◌, [], ◌∷◌, ◌++◌, codes, refl, rules}
use Rattle.std.proofs.lemmas.Result.{on_ok_weaker}
use Rattle.json.specs.Token.{begin_object, end_object}
use Rattle.wire_reply.proofs.Tokens.{more, more_text}
use Rattle.wire_reply.proofs.answer.write_availability.Goals as goal

pub returns-clause-adds : goal.returns-clause-adds
returns-clause-adds c =
    let old = c.args.out.now.tokens in
    let opened : c.begin_object.new.self.tokens ≡ c.begin_with.new.out.tokens ++ begin_object ∷ [] = search rules in
    let closed : c.end_object.new.self.tokens ≡ c.write_text-2.new.out.tokens ++ end_object ∷ [] = search rules in
    let start = more old _ _ _ c.in_ok-begin_with.ensures.adds opened in
    let word = more_text old _ _ (codes "availability") c.name_of.ensures start c.in_ok-write_text.ensures.adds in
    let uss = more_text old _ _ (codes "uss") refl word c.in_ok-write_text-2.ensures.adds in
    let status = more old _ _ (end_object ∷ []) uss closed in
    let version = more_text old _ _ (codes "version") refl status c.in_ok-write_text-3.ensures.adds in
    on_ok_weaker c.end_object-2.result (λ e. more old _ _ (end_object ∷ []) version e) c.end_object-2.ensures.ok
