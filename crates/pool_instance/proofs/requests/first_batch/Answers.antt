use Rattle.std.proofs.Common.{◌+◌, ◌∷◌, ◌∙◌, ℕ, [], List, length, take, Option, Some, ap, sym, subst, arith, length-append}
use Rattle.policy_core.specs.declared.call.Call.{Call}
use Rattle.entity_core.specs.Airspace.{empty_at}
use Rattle.service_step.proofs.Steps.{has_caller}
use Rattle.pool_entry.specs.Pushing.{Refuses}
use Rattle.pool_entry.specs.declared.batch.PushError.{PushError}
use Rattle.pool_entry.specs.declared.pool_call.PoolCall.{PoolCall}
use Rattle.pool_instance.specs.Lists.{AreWritten}
use Rattle.pool_instance.proofs.Batch.{full_batch, next_numbered, next_written}
use Rattle.pool_instance.proofs.requests.first_batch.Goals as goal

pub unreachable-requires : goal.unreachable-requires
unreachable-requires c =
    let call = c.held-item.result.request.call in
    has_caller (empty_at 0) 0 call.caller call.op (sym (ap (λ (v : Call). v.caller) c.call.ensures) ∙ c.in_default.is) (c.held-item.result.early (empty_at 0) 0)

pub returns-in-Err-Full : goal.returns-in-Err-Full
returns-in-Err-Full c =
    full_batch c.args.now c.args.unsent.now (record { batch = c.push.new.self; sent = c.loop-held.sent }) c.loop-held.held-index c.held-item.result c.loop-held.batch c.in_ok-written.written
    c.loop-held.invariant.count c.in-Err-Full.ensures.unchanged c.loop-held.invariant.calls c.loop-held.invariant.numbers c.loop-held-test.true c.held-item.is
    c.in_ok-written.ensures.is c.in_ok-written.ensures.fits
    (subst (λ (v : PushError). Refuses c.loop-held.batch c.in_ok-written.written v) c.in-Err-Full.field-0-is c.in-Err-Full.ensures.full).1

pub loop-held-preserved : goal.loop-held-preserved
loop-held-preserved c =
    let i = c.loop-held.held-index in
    record {
      count = omega (arith, ap (λ (v : List (Option ℕ)). length v) c.in_ok-push-in-Ok.ensures.items, length-append c.loop-held.sent.items (Some c.held-item.result.id ∷ []), c.loop-held.invariant.count);
      calls = subst (λ (v : List PoolCall). AreWritten c.args.now (take (i + 1) c.args.unsent.now) v) (sym c.in-Ok.ensures.ok)
          (next_written c.args.now c.args.unsent.now i c.held-item.result c.loop-held.batch c.in_ok-written.written c.loop-held-test.true c.held-item.is c.loop-held.invariant.calls c.in_ok-written.ensures.is);
      numbers = c.in_ok-push-in-Ok.ensures.items ∙ next_numbered c.args.unsent.now i c.held-item.result c.loop-held.sent.items c.loop-held-test.true c.held-item.is c.loop-held.invariant.numbers;
    }
