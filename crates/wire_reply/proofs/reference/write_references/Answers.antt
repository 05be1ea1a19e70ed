use Rattle.std.proofs.Common.{[], ◌++◌, ◌∷◌, arith, ap, ◌∙◌}
use Rattle.std.proofs.lemmas.Result.{on_ok_weaker}
use Rattle.json.specs.Token.{begin_array}
use Rattle.wire_reply.specs.Built.{reference_data, references_data}
use Rattle.wire_reply.specs.Tokens.{tokens_of}
use Rattle.wire_reply.proofs.Tokens.{array_end, one_more}
use Rattle.wire_reply.proofs.reference.write_references.Goals as goal

pub loop-reference-preserved : goal.loop-reference-preserved
loop-reference-preserved c = record {
  kept = c.in_ok-write_reference.ensures.kept ∙ c.loop-reference.invariant.kept;
  adds = one_more reference_data (c.args.out.now.tokens ++ begin_array ∷ []) c.items-reference-items.result.now c.loop-reference.reference-index c.reference-item.result
      c.loop-reference-test.true c.reference-item.is c.loop-reference.invariant.adds c.in_ok-write_reference.ensures.adds;
}

pub returns-clause-adds : goal.returns-clause-adds
returns-clause-adds c =
    on_ok_weaker c.end_array.result
    (λ e.
    array_end reference_data c.args.out.now.tokens c.items-reference-items.result.now c.loop-reference.reference-index (omega arith) c.loop-reference.invariant.adds e
    ∙ ap (λ all. c.args.out.now.tokens ++ tokens_of (references_data all)) c.items-reference-items.ensures)
    c.end_array.ensures.ok
