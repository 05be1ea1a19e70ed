use Rattle.std.proofs.Common.{◌≡◌, [], ◌++◌, ◌∷◌, take}
use Rattle.json.specs.Token.{begin_array}
use Rattle.wire_reply.specs.Built.{notify_data}
use Rattle.wire_reply.specs.Tokens.{each_tokens}
use Rattle.wire_reply.proofs.subscribers.write_subscribers.Given as goal

abbrev pub invariant-loop-notify : goal.invariant-loop-notify
invariant-loop-notify l = record {
  kept : l.out.before ≡ l.fn.out.before;
  adds : l.out.tokens ≡ (l.fn.out.tokens ++ begin_array ∷ []) ++ each_tokens notify_data (take l.notify-index l.notify-items);
}
