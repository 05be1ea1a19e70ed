use Rattle.std.proofs.Common.{◌++◌, sym, ap, ◌∙◌}
use Rattle.wire_route.proofs.Paths.{nowhere, wrong_front, wrong_words, stripped}
use Rattle.wire_route.proofs.routes.Routes.find.Goals as goal

pub returns-in_default : goal.returns-in_default
returns-in_default c = nowhere c.args.path.now (sym c.endpoint_at.ensures ∙ c.in_default.is)

pub returns-in_default-strip_prefix : goal.returns-in_default-strip_prefix
returns-in_default-strip_prefix c =
    wrong_front c.args.path.now c.in-Some.endpoint (sym c.endpoint_at.ensures ∙ c.in-Some.is)
    (λ rest e. c.in_default-strip_prefix.ensures.cases rest (e ∙ ap (λ front. front ++ rest) (sym c.path_prefix.ensures)))

pub returns-in_default-parameters_at : goal.returns-in_default-parameters_at
returns-in_default-parameters_at c =
    let parts = c.in-Some-strip_prefix.ensures.cases in
    wrong_words c.args.path.now c.in-Some-strip_prefix.rest.now c.in-Some.endpoint (sym c.endpoint_at.ensures ∙ c.in-Some.is)
    (stripped c.path_prefix.result.now c.args.path.now c.in-Some-strip_prefix.rest.now parts.0 parts.1 parts.2 ∙ ap (λ front. front ++ c.in-Some-strip_prefix.rest.now) c.path_prefix.ensures)
    c.in_default-parameters_at.ensures
