use Rattle.std.proofs.Common.{◌∙◌, Ok, Result, Option, ap, refl, subst}
use Rattle.service_step.specs.declared.reply.Reply.{Reply}
use Rattle.pool_instance.specs.Does.{DeniedSo}
use Rattle.pool_instance.specs.declared.fault.InstanceFault.{InstanceFault}
use Rattle.pool_backend.specs.Own.{Admits}
use Rattle.pool_backend.proofs.Did.{did_stopped}
use Rattle.pool_backend.proofs.pool.PoolInstanceBackend.receive.Goals as goal

pub returns-in-Ok-Some : goal.returns-in-Ok-Some
returns-in-Ok-Some g c =
    let q = subst (λ (v : Result (Option Reply) InstanceFault). DeniedSo g.L.Log g.S.Space c.args.moment c.args.request.call.now c.args.self.now.instance c.deny.new.self v) (c.in-Ok-Some.is ∙ ap Ok c.in-Ok-Some.field-0-is) c.deny.ensures in
    record { did = q.1; left = refl }

pub admit-requires-clause-early : goal.admit-requires-clause-early
admit-requires-clause-early g c =
    (subst (λ (v : Result (Option Reply) InstanceFault). DeniedSo g.L.Log g.S.Space c.args.moment c.args.request.call.now c.args.self.now.instance c.deny.new.self v) (c.in-Ok-None.is ∙ ap Ok c.in-Ok-None.field-0-is) c.deny.ensures).2

pub returns-in-Ok-None : goal.returns-in-Ok-None
returns-in-Ok-None g c =
    let q = subst (λ (v : Result (Option Reply) InstanceFault). DeniedSo g.L.Log g.S.Space c.args.moment c.args.request.call.now c.args.self.now.instance c.deny.new.self v) (c.in-Ok-None.is ∙ ap Ok c.in-Ok-None.field-0-is) c.deny.ensures in
    subst (λ v. Admits g.L.Log g.S.Space c.args.moment c.args.request.call.now c.admit.result (record c.args.self.now { instance = v }) c.admit.new.self) q.0 c.admit.ensures

pub returns-in-Err : goal.returns-in-Err
returns-in-Err g c =
    record {
      did = did_stopped g.L.Log g.S.Space c.args.self.now.instance c.deny.new.self _ (subst (λ (v : Result (Option Reply) InstanceFault). DeniedSo g.L.Log g.S.Space c.args.moment c.args.request.call.now c.args.self.now.instance c.deny.new.self v) c.in-Err.is c.deny.ensures);
      left = refl;
    }
