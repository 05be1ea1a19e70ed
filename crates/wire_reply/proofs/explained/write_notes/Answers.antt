use Rattle.std.proofs.Common.{[], ◌++◌, ◌∷◌, arith, ap, ◌∙◌}
use Rattle.std.proofs.lemmas.Result.{on_ok_weaker}
use Rattle.json.specs.Token.{begin_array, string}
use Rattle.wire_reply.proofs.Explanations.{note_data, notes-each}
use Rattle.wire_reply.specs.Tokens.{tokens_of}
use Rattle.wire_reply.proofs.Tokens.{array_end, one_more}
use Rattle.wire_reply.proofs.explained.write_notes.Goals as goal

pub loop-note-preserved : goal.loop-note-preserved
loop-note-preserved c = record {
  kept = c.in_ok-string.ensures.room.0 ∙ c.loop-note.invariant.kept;
  adds = one_more note_data (c.args.out.now.tokens ++ begin_array ∷ []) c.args.notes.now c.loop-note.note-index c.note-item.result
      c.loop-note-test.true c.note-item.is c.loop-note.invariant.adds
      (c.in_ok-string.ensures.ok ∙ ap (λ text. c.loop-note.out.tokens ++ string text ∷ []) c.as_str.ensures.value);
}

pub returns-clause-adds : goal.returns-clause-adds
returns-clause-adds c =
    on_ok_weaker c.end_array.result
    (λ e.
    array_end note_data c.args.out.now.tokens c.args.notes.now c.loop-note.note-index (omega arith) c.loop-note.invariant.adds e
    ∙ ap (λ d. c.args.out.now.tokens ++ tokens_of d) (notes-each c.args.notes.now))
    c.end_array.ensures.ok
