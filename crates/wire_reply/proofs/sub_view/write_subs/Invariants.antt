use Rattle.std.proofs.Common.{◌≡◌, [], ◌++◌, ◌∷◌, take}
use Rattle.json.specs.Token.{begin_array}
use Rattle.wire_reply.specs.Built.{sub_data}
use Rattle.wire_reply.specs.Tokens.{each_tokens}
use Rattle.wire_reply.proofs.sub_view.write_subs.Given as goal

abbrev pub invariant-loop-sub : goal.invariant-loop-sub
invariant-loop-sub l = record {
  kept : l.out.before ≡ l.fn.out.before;
  adds : l.out.tokens ≡ (l.fn.out.tokens ++ begin_array ∷ []) ++ each_tokens sub_data (take l.sub-index l.sub-items);
}
