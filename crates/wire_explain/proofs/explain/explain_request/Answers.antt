use Rattle.std.proofs.Common.{sym}
use Rattle.std.proofs.lemmas.Result.{IfOk-weaker}
use Rattle.wire_body.specs.Body.{words_of}
use Rattle.wire_explain.specs.Verdict.{LeadTo}
use Rattle.wire_explain.proofs.Form.{form_verdict}
use Rattle.wire_explain.proofs.explain.explain_request.Goals as goal

pub returns-clause-verdict : goal.returns-clause-verdict
returns-clause-verdict c =
    let request = c.args.request.now in
    let leads : LeadTo request.path.now request.method.now c.in-Some-kind_at.kind (words_of c.in-Some.route.words) = (
      c.in-Some.route.endpoint,
      c.in-Some.ensures,
      sym c.in-Some-kind_at.ensures,
    ) in
    IfOk-weaker c.explain_as.result _ _
    (λ e is. form_verdict request.path.now request.method.now request.body.now c.in-Some-kind_at.kind (words_of c.in-Some.route.words) e.verdict leads is)
    c.explain_as.ensures.verdict
