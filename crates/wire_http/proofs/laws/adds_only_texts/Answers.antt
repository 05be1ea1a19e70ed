use Rattle.std.proofs.Common.{[], ap, cond, None, Some, refl}
use Rattle.service_step.specs.declared.reply.Reply.TheVariants.{Done, Denied, Fault, Stopped}
use Rattle.wire_reply.specs.Answer.{status_of}
use Rattle.wire_http.specs.Text.{ignored_field, message, rule_field}
use Rattle.wire_http.proofs.Written.{noted_none}
use Rattle.wire_http.proofs.laws.adds_only_texts.Goals as goal

pub returns-clause-no_texts : goal.returns-clause-no_texts
returns-clause-no_texts c = noted_none

pub returns-clause-denials : goal.returns-clause-denials
returns-clause-denials c =
    λ notes endpoint closing rule missing e.
    ap (message (status_of (Denied rule missing)) (rule_field endpoint rule) closing)
    (c.adds_nothing_else.ensures.other (Denied rule missing) notes (ap (λ b. cond b (Some rule) None) e))

pub returns-clause-fault : goal.returns-clause-fault
returns-clause-fault c =
    λ notes endpoint closing. ap (message (status_of Fault) [] closing) (c.adds_nothing_else.ensures.other Fault notes refl)

pub returns-clause-stopped : goal.returns-clause-stopped
returns-clause-stopped c =
    λ notes endpoint closing. ap (message (status_of Stopped) [] closing) (c.adds_nothing_else.ensures.other Stopped notes refl)

pub returns-clause-successes : goal.returns-clause-successes
returns-clause-successes c =
    λ notes endpoint closing answer.
    ap (message (status_of (Done answer)) (ignored_field notes) closing) (c.adds_nothing_else.ensures.other (Done answer) notes refl)
