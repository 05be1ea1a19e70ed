use Rattle.std.proofs.Common.{◌≡◌, [], ◌++◌, ◌∷◌, take}
use Rattle.json.specs.Token.{begin_array}
use Rattle.wire_reply.specs.Tokens.{each_tokens}
use Rattle.wire_reply.proofs.Explanations.{note_data}
use Rattle.wire_reply.proofs.explained.write_notes.Given as goal

abbrev pub invariant-loop-note : goal.invariant-loop-note
invariant-loop-note l = record {
  kept : l.out.before ≡ l.fn.out.before;
  adds : l.out.tokens ≡ (l.fn.out.tokens ++ begin_array ∷ []) ++ each_tokens note_data (take l.note-index l.notes);
}
