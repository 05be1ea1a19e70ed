use Rattle.std.proofs.Common.{[], ◌++◌, ◌∷◌, arith, ap, ◌∙◌}
use Rattle.std.proofs.lemmas.Result.{on_ok_weaker}
use Rattle.json.specs.Token.{begin_array}
use Rattle.wire_reply.specs.Built.{state_data, states_data}
use Rattle.wire_reply.specs.Tokens.{tokens_of}
use Rattle.wire_reply.proofs.Tokens.{array_end, one_more}
use Rattle.wire_reply.proofs.subscribers.write_states.Goals as goal

pub loop-state-preserved : goal.loop-state-preserved
loop-state-preserved c = record {
  kept = c.in_ok-write_state.ensures.kept ∙ c.loop-state.invariant.kept;
  adds = one_more state_data (c.args.out.now.tokens ++ begin_array ∷ []) c.items-state-items.result.now c.loop-state.state-index c.state-item.result
      c.loop-state-test.true c.state-item.is c.loop-state.invariant.adds c.in_ok-write_state.ensures.adds;
}

pub returns-clause-adds : goal.returns-clause-adds
returns-clause-adds c =
    on_ok_weaker c.end_array.result
    (λ e.
    array_end state_data c.args.out.now.tokens c.items-state-items.result.now c.loop-state.state-index (omega arith) c.loop-state.invariant.adds e
    ∙ ap (λ all. c.args.out.now.tokens ++ tokens_of (states_data all)) c.items-state-items.ensures)
    c.end_array.ensures.ok
