use Rattle.std.proofs.Common.{[], ◌∷◌, codes, false, refl}
use Rattle.std.proofs.lemmas.Result.{on_ok_weaker}
use Rattle.json.specs.Token.{end_object}
use Rattle.wire_reply.specs.Tokens.{text_tokens, flag_tokens, tokens_of}
use Rattle.wire_reply.proofs.Tokens.{more, more_flag, more_number, more_text}
use Rattle.wire_reply.specs.Built.{ids_data}
use Rattle.entity_core.specs.EntityId.{printed}
use Rattle.wire_reply.proofs.sub_view.write_sub.Goals as goal

pub returns-clause-adds : goal.returns-clause-adds
returns-clause-adds c =
    let s = c.args.sub.now in
    let old = c.args.out.now.tokens in
    let front = more old _ _ (tokens_of (ids_data s.dependents)) c.in_ok-begin_with.ensures.adds c.in_ok-write_ids.ensures.adds in
    let mid = c.write_ids.new.out.tokens in
    let implicit = more mid (text_tokens (codes "id") (printed s.id)) _ (flag_tokens (codes "implicit_subscription") false) c.in_ok-write_id.ensures.adds c.in_ok-write_flag.ensures.adds in
    let index = more_number mid _ _ (codes "notification_index") c.number.ensures.number implicit c.in_ok-write_number.ensures.adds in
    let constraints = more_flag mid _ _ (codes "notify_for_constraints") c.wants-constraints.ensures index c.in_ok-write_flag-2.ensures.adds in
    let intents = more_flag mid _ _ (codes "notify_for_operational_intents") c.wants-intents.ensures constraints c.in_ok-write_flag-3.ensures.adds in
    let end = more_number mid _ _ (codes "time_end") refl intents c.in_ok-write_number-2.ensures.adds in
    let times = more_number mid _ _ (codes "time_start") refl end c.in_ok-write_number-3.ensures.adds in
    let url = more_text mid _ _ (codes "uss_base_url") c.text.ensures.same times c.in_ok-write_text.ensures.adds in
    let version = more_text mid _ _ (codes "version") c.text-2.ensures.same url c.in_ok-write_text-2.ensures.adds in
    on_ok_weaker c.end_object.result
    (λ e. more old _ _ _ front (more mid _ _ (end_object ∷ []) version e)) c.end_object.ensures.ok
