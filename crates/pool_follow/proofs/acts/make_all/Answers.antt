use Rattle.std.proofs.Common.{◌≡◌, ◌+◌, ◌++◌, ◌∷◌, [], List, take, ap, sym, subst, ◌∙◌}
use Rattle.std.proofs.lemmas.List.{take_all, take_more}
use Rattle.service_calls.specs.Run.{TimedCall}
use Rattle.service_calls.proofs.Runs.{stays_same, stays_then}
use Rattle.pool_core.specs.Acts.{makes_all}
use Rattle.pool_follow.specs.Acts.{DoesActs}
use Rattle.pool_follow.proofs.Done.{does_more, does_none}
use Rattle.pool_follow.proofs.acts.make_all.Goals as goal

pub loop-timed-init : goal.loop-timed-init
loop-timed-init g c = record {
  stays = stays_same g.S.Space c.args.service.now;
  done = λ goes. does_none g.S.Space c.args.service.now goes;
}

pub loop-timed-preserved : goal.loop-timed-preserved
loop-timed-preserved g c =
    let i = c.loop-timed.timed-index in
    let d = c.timed-item.result in
    let calls : take (i + 1) c.args.calls.now ≡ take i c.args.calls.now ++ d ∷ [] =
    take_more c.args.calls.now i d c.loop-timed-test.true ∙ ap (λ (x : TimedCall). take i c.args.calls.now ++ x ∷ []) (sym c.timed-item.is) in
    record {
      stays = stays_then g.S.Space c.args.service.now c.loop-timed.service c.call-reply.new.self c.loop-timed.invariant.stays c.call-reply.ensures.reply.stays;
      done = λ goes.
          subst (λ (v : List TimedCall). DoesActs g.S.Space (makes_all v) c.args.service.now c.call-reply.new.self) (sym calls)
          (does_more g.S.Space c.args.service.now c.loop-timed.service c.call-reply.new.self (take i c.args.calls.now) d c.call-reply.result c.loop-timed.invariant.stays (c.loop-timed.invariant.done goes)
          c.call-reply.ensures.reply (c.is_final.ensures c.if-not-is_final.false));
    }

pub returns-clause-done : goal.returns-clause-done
returns-clause-done g c goes =
    subst (λ (v : List TimedCall). DoesActs g.S.Space (makes_all v) c.args.service.now c.loop-timed.service) (take_all c.loop-timed.timed-index c.args.calls.now c.loop-timed-test.false) (c.loop-timed.invariant.done goes)
