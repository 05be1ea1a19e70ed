use Rattle.std.proofs.Common.{◌∙◌, sym}
use Rattle.wire_body.specs.Body.{words_of}
use Rattle.wire_http.proofs.Unread.{asked_without_method}
use Rattle.wire_http.proofs.call.seek.Goals as goal

pub returns-in_default-kind-clause-asked : goal.returns-in_default-kind-clause-asked
returns-in_default-kind-clause-asked c =
    asked_without_method c.args.path.now c.args.method.now c.args.body.now c.in-Some.field-0.endpoint (words_of c.in-Some.field-0.words) c.args.caller
    c.in-Some.ensures (sym c.kind.ensures ∙ c.in_default-kind.is)
