use Rattle.std.proofs.Common.{◌∙◌, ap, subst}
use Rattle.httparse.specs.Spans.{span_bytes}
use Rattle.token_conf.specs.TokenFile.{callers_of}
use Rattle.wire_head.specs.Target.{path_of}
use Rattle.wire_http.specs.RequestInfo.{IsEntityNamed, requested_kind}
use Rattle.wire_http.proofs.CallLaws.{call_made}
use Rattle.wire_http.proofs.call.route.Goals as goal

pub returns-clause-made : goal.returns-clause-made
returns-clause-made c = (
  record { caller = c.in_ok-caller.caller; op = c.in_ok-routed.ensures.asked.0 },
  λ h cover.
      call_made (callers_of c.args.tokens.now) c.args.received.buffer.now c.args.received.fields.now c.args.received.spans c.args.received.size h
      c.in_ok-routed.ensures.asked.0 c.in_ok-caller.caller c.in_ok-routed.routed.endpoint c.path_of-path.result.now c.of-2.result.now
      (c.path_of-path.ensures ∙ ap path_of (c.in-Ok.ensures.cases.0 ∙ c.of.ensures))
      c.of-2.ensures c.in_ok-routed.ensures.asked.1 c.in_ok-caller.ensures cover,
  c.in_ok-routed.ensures.asked.2,
)

pub returns-clause-kind : goal.returns-clause-kind
returns-clause-kind c = c.in_ok-routed.ensures.kind ∙ ap (λ v. requested_kind c.in_ok-routed.routed.endpoint v) c.of-2.ensures

pub returns-clause-entity : goal.returns-clause-entity
returns-clause-entity c =
    let endpoint = c.in_ok-routed.routed.endpoint in
    let entity = c.in_ok-routed.routed.entity in
    let method = span_bytes c.args.received.buffer.now c.args.received.spans.method in
    subst (λ v. IsEntityNamed v method endpoint entity) (c.path_of-path.ensures ∙ ap path_of (c.in-Ok.ensures.cases.0 ∙ c.of.ensures))
    (subst (λ v. IsEntityNamed c.path_of-path.result.now v endpoint entity) c.of-2.ensures c.in_ok-routed.ensures.entity)
