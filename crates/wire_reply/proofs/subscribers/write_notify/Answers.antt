use Rattle.std.proofs.Common.{[], ◌∷◌, ◌++◌, codes, ap, ◌∙◌}
use Rattle.std.proofs.lemmas.Result.{on_ok_weaker}
use Rattle.json.specs.Token.{end_object}
use Rattle.wire_reply.specs.Tokens.{text_tokens, tokens_of}
use Rattle.wire_reply.proofs.Tokens.{more}
use Rattle.wire_reply.specs.Built.{states_data}
use Rattle.wire_reply.proofs.subscribers.write_notify.Goals as goal

pub returns-clause-adds : goal.returns-clause-adds
returns-clause-adds c =
    let old = c.args.out.now.tokens in
    let states = more old _ _ (tokens_of (states_data c.args.notify.now.states)) c.in_ok-begin_with.ensures.adds c.in_ok-write_states.ensures.adds in
    let url = c.in_ok-write_text.ensures.adds ∙ ap (λ text. c.write_states.new.out.tokens ++ text_tokens (codes "uss_base_url") text) c.text.ensures.same in
    on_ok_weaker c.end_object.result
    (λ e. more old _ _ _ states (more c.write_states.new.out.tokens _ _ (end_object ∷ []) url e)) c.end_object.ensures.ok
