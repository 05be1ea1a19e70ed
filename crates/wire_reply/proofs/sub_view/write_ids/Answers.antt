use Rattle.std.proofs.Common.{[], ◌++◌, ◌∷◌, arith, ap, ◌∙◌}
use Rattle.std.proofs.lemmas.Result.{on_ok_weaker}
use Rattle.json.specs.Token.{begin_array}
use Rattle.wire_reply.specs.Built.{id_data, ids_data}
use Rattle.wire_reply.specs.Tokens.{tokens_of}
use Rattle.wire_reply.proofs.Tokens.{array_end, one_more}
use Rattle.wire_reply.proofs.sub_view.write_ids.Goals as goal

pub loop-id-preserved : goal.loop-id-preserved
loop-id-preserved c = record {
  kept = c.in_ok-write_item.ensures.kept ∙ c.loop-id.invariant.kept;
  adds = one_more id_data (c.args.out.now.tokens ++ begin_array ∷ []) c.items-id-items.result.now c.loop-id.id-index c.id-item.result
      c.loop-id-test.true c.id-item.is c.loop-id.invariant.adds c.in_ok-write_item.ensures.adds;
}

pub returns-clause-adds : goal.returns-clause-adds
returns-clause-adds c =
    on_ok_weaker c.end_array.result
    (λ e.
    array_end id_data c.args.out.now.tokens c.items-id-items.result.now c.loop-id.id-index (omega arith) c.loop-id.invariant.adds e
    ∙ ap (λ all. c.args.out.now.tokens ++ tokens_of (ids_data all)) c.items-id-items.ensures)
    c.end_array.ensures.ok
