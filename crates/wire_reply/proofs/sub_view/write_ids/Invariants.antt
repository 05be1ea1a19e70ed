use Rattle.std.proofs.Common.{◌≡◌, [], ◌++◌, ◌∷◌, take}
use Rattle.json.specs.Token.{begin_array}
use Rattle.wire_reply.specs.Built.{id_data}
use Rattle.wire_reply.specs.Tokens.{each_tokens}
use Rattle.wire_reply.proofs.sub_view.write_ids.Given as goal

abbrev pub invariant-loop-id : goal.invariant-loop-id
invariant-loop-id l = record {
  kept : l.out.before ≡ l.fn.out.before;
  adds : l.out.tokens ≡ (l.fn.out.tokens ++ begin_array ∷ []) ++ each_tokens id_data (take l.id-index l.id-items);
}
