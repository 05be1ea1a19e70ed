use Rattle.std.proofs.Common.{subst, sym, ap, Ok, Err}
use Rattle.service_step.specs.Looks.{LooksUp}
use Rattle.service_calls.specs.Decision.{Decides}
use Rattle.service_calls.specs.declared.decide.Decision.{Decision}
use Rattle.service_calls.specs.Service.{AnswersTo}
use Rattle.service_calls.proofs.Outcome.{allowed_looks, denied_answers, halted_answers}
use Rattle.service_calls.proofs.service.deny_admitted.Goals as goal

pub returns-in-Ok-Refused-clause-answers : goal.returns-in-Ok-Refused-clause-answers
returns-in-Ok-Refused-clause-answers g c =
    denied_answers g.S.Space c.args.admitted.now c.args.space.now c.decide.new.space c.in-Ok-Refused.broken c.in-Ok-Refused.missing
    (subst (λ (v : Decision). LooksUp g.S.Space c.args.space.now c.decide.new.space (Ok v) (Decides c.args.admitted.now)) c.in-Ok-Refused.field-0-is c.in-Ok-Refused.ensures.looks)

pub returns-in-Ok-Allowed-clause-answers : goal.returns-in-Ok-Allowed-clause-answers
returns-in-Ok-Allowed-clause-answers g c =
    allowed_looks g.S.Space c.args.admitted.now c.args.space.now c.decide.new.space _
    (subst (λ (v : Decision). LooksUp g.S.Space c.args.space.now c.decide.new.space (Ok v) (Decides c.args.admitted.now)) c.in-Ok-Allowed.field-0-is c.in-Ok-Allowed.ensures.looks)

pub returns-clause-answers : goal.returns-clause-answers
returns-clause-answers g c =
    subst (AnswersTo g.S.Space c.args.admitted.now c.args.space.now c.decide.new.space) (sym c.reply_to_fault.ensures)
    (halted_answers g.S.Space c.args.admitted.now c.args.space.now c.decide.new.space c.in-Err.halt _ c.in-Err.ensures.looks c.requires (λ e. c.in-Err.ensures.memory (ap Err e)))
