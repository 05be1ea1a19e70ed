use Rattle.token_conf.specs.TokenFile.{callers_of}
use Rattle.wire_http.proofs.Requests.{front_here}
use Rattle.wire_http.proofs.connection.Connection.first_request.Goals as goal

pub returns : goal.returns
returns c =
    let self = c.args.self.now in
    front_here (callers_of c.args.tokens.now) self.left c.left_after-left.result self.ended self.held.items c.as_slice.result.now c.args.fields.now c.args.spans c.args.size c.in_ok-routed.routed
    c.in_ok-routed.ensures.made.0 c.as_slice.ensures.value c.requires.held c.requires.fits c.in_ok-routed.ensures.made.1 c.in_ok-routed.ensures.made.2
    c.in_ok-routed.ensures.kind c.in_ok-routed.ensures.entity c.left_after-left.ensures
