use Rattle.std.proofs.Common.{◌≡◌, [], ◌∷◌, ◌++◌, codes, refl, ap, ◌∙◌, rules}
use Rattle.std.proofs.lemmas.Result.{on_ok_weaker}
use Rattle.json.specs.Token.{begin_object, end_object}
use Rattle.wire_reply.specs.Tokens.{nature_tokens, ovn_tokens}
use Rattle.wire_reply.proofs.Tokens.{more, more_number, more_text, reference-parts}
use Rattle.wire_reply.proofs.reference.write_reference.Goals as goal

pub returns-clause-adds : goal.returns-clause-adds
returns-clause-adds c =
    let r = c.args.reference.now in
    let old = c.args.out.now.tokens in
    let start : c.begin_object.new.self.tokens ≡ old ++ begin_object ∷ [] = search rules in
    let id = more_text old _ _ (codes "id") refl start c.in_ok-write_id.ensures.adds in
    let manager = more_text old _ _ (codes "manager") c.text.ensures.same id c.in_ok-write_text.ensures.adds in
    let ovn = more old _ _ (ovn_tokens r.ovn) manager c.in_ok-write_ovn.ensures.adds in
    let nature = more old _ _ (nature_tokens r.nature) ovn c.in_ok-write_nature.ensures.adds in
    let end = more_number old _ _ (codes "time_end") refl nature c.in_ok-write_number.ensures.adds in
    let times = more_number old _ _ (codes "time_start") refl end c.in_ok-write_number-2.ensures.adds in
    let availability = more_text old _ _ (codes "uss_availability") c.name_of-availability.ensures times c.in_ok-write_text-2.ensures.adds in
    let url = more_text old _ _ (codes "uss_base_url") c.text-2.ensures.same availability c.in_ok-write_text-3.ensures.adds in
    let version = more_number old _ _ (codes "version") (c.from.ensures ∙ c.number.ensures.number) url c.in_ok-write_number-3.ensures.adds in
    on_ok_weaker c.end_object.result
    (λ e. more old _ _ (end_object ∷ []) version e ∙ ap (λ ts. old ++ ts) (reference-parts r))
    c.end_object.ensures.ok
