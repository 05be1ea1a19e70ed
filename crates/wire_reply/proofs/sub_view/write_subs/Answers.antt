use Rattle.std.proofs.Common.{[], ◌++◌, ◌∷◌, arith, ap, ◌∙◌}
use Rattle.std.proofs.lemmas.Result.{on_ok_weaker}
use Rattle.json.specs.Token.{begin_array}
use Rattle.wire_reply.specs.Built.{sub_data, subs_data}
use Rattle.wire_reply.specs.Tokens.{tokens_of}
use Rattle.wire_reply.proofs.Tokens.{array_end, one_more}
use Rattle.wire_reply.proofs.sub_view.write_subs.Goals as goal

pub loop-sub-preserved : goal.loop-sub-preserved
loop-sub-preserved c = record {
  kept = c.in_ok-write_sub.ensures.kept ∙ c.loop-sub.invariant.kept;
  adds = one_more sub_data (c.args.out.now.tokens ++ begin_array ∷ []) c.items-sub-items.result.now c.loop-sub.sub-index c.sub-item.result
      c.loop-sub-test.true c.sub-item.is c.loop-sub.invariant.adds c.in_ok-write_sub.ensures.adds;
}

pub returns-clause-adds : goal.returns-clause-adds
returns-clause-adds c =
    on_ok_weaker c.end_array.result
    (λ e.
    array_end sub_data c.args.out.now.tokens c.items-sub-items.result.now c.loop-sub.sub-index (omega arith) c.loop-sub.invariant.adds e
    ∙ ap (λ all. c.args.out.now.tokens ++ tokens_of (subs_data all)) c.items-sub-items.ensures)
    c.end_array.ensures.ok
