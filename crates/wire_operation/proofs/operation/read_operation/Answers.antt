use Rattle.std.proofs.Common.{◌∙◌, sym}
use Rattle.wire_body.specs.Body.{words_of}
use Rattle.wire_operation.proofs.Asked.{without_method, with_method}
use Rattle.wire_operation.proofs.operation.read_operation.Goals as goal

pub returns-in_default-kind : goal.returns-in_default-kind
returns-in_default-kind c =
    without_method c.args.path.now c.args.method.now c.args.body.now c.in-Some.route.endpoint (words_of c.in-Some.route.words)
    c.in-Some.ensures (sym c.kind.ensures ∙ c.in_default-kind.is)

pub returns : goal.returns
returns c =
    with_method c.args.path.now c.args.method.now c.args.body.now c.in-Some.route.endpoint (words_of c.in-Some.route.words) c.in-Some-kind.kind c.read_as.result
    c.in-Some.ensures (sym c.kind.ensures ∙ c.in-Some-kind.is) c.read_as.ensures
