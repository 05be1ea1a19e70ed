use Rattle.std.proofs.Common.{[], ◌++◌, ◌∷◌, arith, ap, ◌∙◌}
use Rattle.std.proofs.lemmas.Result.{on_ok_weaker}
use Rattle.json.specs.Token.{begin_array}
use Rattle.wire_reply.specs.Built.{notify_data, subscribers_data}
use Rattle.wire_reply.specs.Tokens.{tokens_of}
use Rattle.wire_reply.proofs.Tokens.{array_end, one_more}
use Rattle.wire_reply.proofs.subscribers.write_subscribers.Goals as goal

pub loop-notify-preserved : goal.loop-notify-preserved
loop-notify-preserved c = record {
  kept = c.in_ok-write_notify.ensures.kept ∙ c.loop-notify.invariant.kept;
  adds = one_more notify_data (c.args.out.now.tokens ++ begin_array ∷ []) c.items-notify-items.result.now c.loop-notify.notify-index c.notify-item.result
      c.loop-notify-test.true c.notify-item.is c.loop-notify.invariant.adds c.in_ok-write_notify.ensures.adds;
}

pub returns-clause-adds : goal.returns-clause-adds
returns-clause-adds c =
    on_ok_weaker c.end_array.result
    (λ e.
    array_end notify_data c.args.out.now.tokens c.items-notify-items.result.now c.loop-notify.notify-index (omega arith) c.loop-notify.invariant.adds e
    ∙ ap (λ all. c.args.out.now.tokens ++ tokens_of (subscribers_data all)) c.items-notify-items.ensures)
    c.end_array.ensures.ok
