use Rattle.std.proofs.Common.{◌∙◌, ap, subst}
use Rattle.httparse.specs.Spans.{span_bytes}
use Rattle.wire_head.specs.Target.{path_of}
use Rattle.wire_http.specs.RequestInfo.{IsEntityNamed, LeadsTo, requested_kind}
use Rattle.wire_http.proofs.target.find_target.Goals as goal

pub returns-clause-leads : goal.returns-clause-leads
returns-clause-leads c =
    subst (λ v. LeadsTo v c.target_at.result.endpoint) (c.path_of-path.ensures ∙ ap path_of (c.in-Ok.ensures.cases.0 ∙ c.of.ensures)) c.target_at.ensures.leads

pub returns-clause-kind : goal.returns-clause-kind
returns-clause-kind c = c.target_at.ensures.kind ∙ ap (λ v. requested_kind c.target_at.result.endpoint v) c.of-2.ensures

pub returns-clause-entity : goal.returns-clause-entity
returns-clause-entity c =
    let endpoint = c.target_at.result.endpoint in
    let entity = c.target_at.result.entity in
    let method = span_bytes c.args.received.buffer.now c.args.received.spans.method in
    subst (λ v. IsEntityNamed v method endpoint entity) (c.path_of-path.ensures ∙ ap path_of (c.in-Ok.ensures.cases.0 ∙ c.of.ensures))
    (subst (λ v. IsEntityNamed c.path_of-path.result.now v endpoint entity) c.of-2.ensures c.target_at.ensures.entity)
