use Rattle.std.specs.Prelude.{ℕ, List}
use Rattle.std.proofs.Common.{subst}
use Rattle.wire_explain.specs.Verdict.{IsVerdict}
use Rattle.dss_command.specs.Explain.{EndsExplain}
use Rattle.dss_command.proofs.Explaining.{ends_by}
use Rattle.dss_command.proofs.explain.explain.Goals as goal

pub returns : goal.returns
returns g c =
    subst (λ (path : List ℕ). EndsExplain path c.args.method.now (g.R.Read.remaining c.args.input.now) c.end_by.result) c.path_of.ensures
    (ends_by c.path_of.result.now c.args.method.now c.in_ok-body.body.items (g.R.Read.remaining c.args.input.now)
    c.in-Ok-explain_request.explanation.verdict c.end_by.result c.in_ok-body.ensures.body
    (subst (λ (b : List ℕ). IsVerdict c.path_of.result.now c.args.method.now b c.in-Ok-explain_request.explanation.verdict) c.as_slice.ensures.value c.in-Ok-explain_request.ensures.verdict)
    c.end_by.ensures)
