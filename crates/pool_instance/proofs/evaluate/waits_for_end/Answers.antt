use Rattle.std.proofs.Common.{◌∙◌, Some, subst, sym, inl, inr}
use Rattle.service_step.specs.declared.reply.Reply.{Reply}
use Rattle.service_calls.specs.Run.{IsReplyTo}
use Rattle.pool_instance.proofs.Looked.{allowed_looks, is_fault, plain_looks}
use Rattle.pool_instance.proofs.evaluate.waits_for_end.Goals as goal

pub returns-in_default-clause-looks : goal.returns-in_default-clause-looks
returns-in_default-clause-looks g c = allowed_looks g.S.Space c.args.service.now c.deny.new.self c.args.now c.args.call.now c.in_default.ensures.reply

pub returns-in_default-clause-offered : goal.returns-in_default-clause-offered
returns-in_default-clause-offered g c is = inl c.in_default.ensures.reply

pub returns-clause-looks : goal.returns-clause-looks
returns-clause-looks g c =
    plain_looks g.S.Space c.args.service.now c.deny.new.self c.args.now c.args.call.now c.in-Some.reply c.in-Some.ensures.unmade (sym c.is_stopped.ensures ∙ c.if-is_stopped.false) c.in-Some.ensures.reply

pub returns-clause-offered : goal.returns-clause-offered
returns-clause-offered g c is =
    let other = sym c.is_denial.ensures ∙ (let e = is in cc) in
    inr (subst (λ (v : Reply). IsReplyTo g.S.Space c.args.service.now c.deny.new.self c.args.now c.args.call.now v)
    (is_fault c.in-Some.reply c.in-Some.ensures.unmade (sym c.is_stopped.ensures ∙ c.if-is_stopped.false) other) c.in-Some.ensures.reply)
