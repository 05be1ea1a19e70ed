use Rattle.std.proofs.Common.{[], ◌∷◌, Some, ap, refl, sym, subst, ◌∙◌, arith}
use Rattle.policy_core.specs.declared.call.Call.{Call}
use Rattle.pool_core.specs.Events.{Receives}
use Rattle.pool_instance.specs.Does.{StoppedSo}
use Rattle.pool_instance.specs.Evaluate.{IsOffered}
use Rattle.pool_instance.specs.Request.{call_of}
use Rattle.pool_instance.specs.declared.fault.InstanceFault.{InstanceFault}
use Rattle.pool_instance.specs.declared.fault.InstanceFault.TheVariants.{Ended}
use Rattle.pool_instance.proofs.Answered.{answer_stops}
use Rattle.pool_instance.proofs.Fails.{stopped_end}
use Rattle.pool_instance.proofs.Looked.{did_look, did_then, queued}
use Rattle.pool_instance.proofs.Receive.{did_hold, match_ok}
use Rattle.pool_instance.proofs.instance.Instance.queue.Goals as goal

pub returns-in_default : goal.returns-in_default
returns-in_default g c =
    let old = c.args.self.now in
    subst (λ (v : InstanceFault). StoppedSo g.L.Log g.S.Space old c.end.new.self v) (sym c.end.ensures.fault)
    (subst (λ v. StoppedSo g.L.Log g.S.Space old v Ended) (sym c.end.ensures.ended) (stopped_end g.L.Log g.S.Space old))

pub returns-in_default-waits_for_end : goal.returns-in_default-waits_for_end
returns-in_default-waits_for_end g c =
    let old = c.args.self.now in
    subst (λ (v : InstanceFault). StoppedSo g.L.Log g.S.Space old c.end-in_default-waits_for_end.new.self v) (sym c.end-in_default-waits_for_end.ensures.fault)
    (subst (λ v. StoppedSo g.L.Log g.S.Space old v Ended) (sym c.end-in_default-waits_for_end.ensures.ended) (answer_stops g.L.Log g.S.Space old c.waits_for_end.new.service c.in_default-waits_for_end.ensures.looks))

pub returns : goal.returns
returns g c =
    let old = c.args.self.now in
    let looks = c.in-Some-waits_for_end.ensures.looks in
    let mid = record old { service = c.waits_for_end.new.service } in
    let holds = match_ok _ _ c.hold.result (sym c.is_err.ensures.value ∙ c.if-is_err.false) c.hold.ensures.held in (
      refl,
      did_then g.L.Log g.S.Space old [] mid (Receives old.received (call_of c.args.request) ∷ []) (record c.hold.new.self { received = c.in-Some.next }) (did_look g.L.Log g.S.Space old c.waits_for_end.new.service looks)
          (did_hold g.L.Log g.S.Space mid c.hold.new.self c.in-Some.next c.args.request (omega (arith, c.in-Some.ensures))
          holds),
      queued c.in-Some-waits_for_end.waits c.hold.ensures.unsent
          (λ e.
          subst (λ s. IsOffered g.S.Space old.service s c.args.now (call_of c.args.request)) (sym holds.rest.service)
          (subst (λ (v : Call). IsOffered g.S.Space old.service c.waits_for_end.new.service c.args.now v) c.call.ensures (c.in-Some-waits_for_end.ensures.offered (ap Some e)))),
    )
