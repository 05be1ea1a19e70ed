use Rattle.std.proofs.Common.{List, subst, take}
use Rattle.std.proofs.lemmas.List.{take_all}
use Rattle.service_calls.specs.Run.{TimedCall}
use Rattle.pool_core.specs.Acts.{makes_all}
use Rattle.pool_instance.specs.Lists.{DidKeeping}
use Rattle.pool_instance.proofs.Made.{kept_made, kept_next, kept_none, kept_stays, stays_next}
use Rattle.pool_instance.proofs.requests.make_calls.Goals as goal

pub loop-timed-init : goal.loop-timed-init
loop-timed-init g c = kept_none g.S.Space c.args.is_own c.args.service.now c.new-kept.result.items c.new-kept.ensures.items

pub loop-timed-preserved : goal.loop-timed-preserved
loop-timed-preserved g c =
    kept_next g.S.Space c.args.is_own c.args.service.now c.args.calls.now c.loop-timed.timed-index c.loop-timed.service c.call-reply.new.self c.loop-timed.kept.items c.loop-timed.invariant
    c.timed-item.result c.loop-timed-test.true c.timed-item.is c.call-reply.result c.call-reply.ensures.reply
    (c.is_final-is_final.ensures c.if-not-is_final.false) c.keep.new.kept.items c.in-Ok.ensures.own c.in-Ok.ensures.other

pub returns-then-not-is_final-clause-keeps : goal.returns-then-not-is_final-clause-keeps
returns-then-not-is_final-clause-keeps g c =
    stays_next g.S.Space c.args.is_own c.args.service.now c.args.calls.now c.loop-timed.timed-index c.loop-timed.service c.call-reply.new.self c.loop-timed.kept.items c.loop-timed.invariant
    c.timed-item.result c.loop-timed-test.true c.timed-item.is c.call-reply.result c.call-reply.ensures.reply

pub returns-in_default-clause-keeps : goal.returns-in_default-clause-keeps
returns-in_default-clause-keeps g c =
    stays_next g.S.Space c.args.is_own c.args.service.now c.args.calls.now c.loop-timed.timed-index c.loop-timed.service c.call-reply.new.self c.loop-timed.kept.items c.loop-timed.invariant
    c.timed-item.result c.loop-timed-test.true c.timed-item.is c.call-reply.result c.call-reply.ensures.reply

pub returns-clause-keeps : goal.returns-clause-keeps
returns-clause-keeps g c =
    kept_stays g.S.Space c.args.is_own c.args.service.now (take c.loop-timed.timed-index c.args.calls.now) c.loop-timed.service c.loop-timed.kept.items c.loop-timed.invariant

pub returns-clause-made : goal.returns-clause-made
returns-clause-made g c =
    subst (λ (v : List TimedCall). DidKeeping g.S.Space c.args.is_own (makes_all v) c.args.service.now c.loop-timed.service c.loop-timed.kept.items)
    (take_all c.loop-timed.timed-index c.args.calls.now c.loop-timed-test.false)
    (kept_made g.S.Space c.args.is_own c.args.service.now (take c.loop-timed.timed-index c.args.calls.now) c.loop-timed.service c.loop-timed.kept.items c.loop-timed.invariant)
