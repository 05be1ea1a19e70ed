use Rattle.std.proofs.Common.{◌≡◌, [], ◌++◌, ◌∷◌, take}
use Rattle.json.specs.Token.{begin_array}
use Rattle.wire_reply.specs.Built.{state_data}
use Rattle.wire_reply.specs.Tokens.{each_tokens}
use Rattle.wire_reply.proofs.subscribers.write_states.Given as goal

abbrev pub invariant-loop-state : goal.invariant-loop-state
invariant-loop-state l = record {
  kept : l.out.before ≡ l.fn.out.before;
  adds : l.out.tokens ≡ (l.fn.out.tokens ++ begin_array ∷ []) ++ each_tokens state_data (take l.state-index l.state-items);
}
