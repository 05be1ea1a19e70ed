use Rattle.std.proofs.Common.{refl, sym, ap, ◌∙◌, arith}
use Rattle.policy_core.specs.declared.reference.Missing.{Missing}
use Rattle.service_step.specs.declared.reply.Reply.TheVariants.{Denied}
use Rattle.pool_core.proofs.Histories.{continues_same}
use Rattle.pool_instance.proofs.Did.{did_deny}
use Rattle.pool_instance.proofs.Receive.{some_found}
use Rattle.pool_instance.proofs.instance.Instance.deny.Goals as goal

pub returns-in_default : goal.returns-in_default
returns-in_default g c = (refl, c.if-self.false, λ a time. sym (c.early.ensures a time) ∙ c.in_default.is)

pub returns : goal.returns
returns g c =
    let old = c.args.self.now in
    let call = c.args.call.now in
    let rule = c.in-Some.rule in (
      λ a. some_found a c.args.now call rule (sym (c.early.ensures a c.args.now) ∙ c.in-Some.is),
      did_deny g.L.Log g.S.Space old (record old { received = c.in-Some-checked_add.next }) c.args.now call rule (Denied rule c.empty.result)
          (record { service = refl; history = continues_same (g.L.Log.history old.log) (g.L.Log.history old.log) refl; writer = refl; taken = refl; ended = refl; retention = refl; heard = refl }) refl refl refl
          (omega (arith, c.in-Some-checked_add.ensures))
          (λ a. sym (c.early.ensures a c.args.now) ∙ c.in-Some.is)
          (ap (λ (v : Missing). Denied rule v) c.empty.ensures),
    )
