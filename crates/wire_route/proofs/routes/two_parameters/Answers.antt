use Rattle.std.proofs.Common.{sym, ◌∙◌}
use Rattle.wire_route.proofs.Paths.{not_halved, not_named, not_part}
use Rattle.wire_route.proofs.routes.two_parameters.Goals as goal

pub returns-in_default : goal.returns-in_default
returns-in_default c = λ words a. not_halved c.args.rest.now words c.in_default.ensures a

pub returns-then-not-may_be_id : goal.returns-then-not-may_be_id
returns-then-not-may_be_id c = λ words a.
    not_named c.args.rest.now c.in-Some.id.now c.in-Some.ovn.now words c.in-Some.ensures.0 c.in-Some.ensures.1
    (sym c.may_be_id.ensures ∙ c.if-not-may_be_id.true) a

pub returns-then-not-is_part : goal.returns-then-not-is_part
returns-then-not-is_part c = λ words a.
    not_part c.args.rest.now c.in-Some.id.now c.in-Some.ovn.now words c.in-Some.ensures.0 c.in-Some.ensures.1
    (sym c.is_part.ensures ∙ c.if-not-is_part.true) a
