use Rattle.std.proofs.Common.{◌∙◌, Some, ap}
use Rattle.wire_http.proofs.connection.Connection.take.Goals as goal

pub returns-clause-takes : goal.returns-clause-takes
returns-clause-takes c = record {
  held = c.pass.ensures.held;
  left = c.pass.ensures.left;
  ended = c.pass.ensures.ended;
  done = c.pass.ensures.done;
}

pub returns-clause-noted : goal.returns-clause-noted
returns-clause-noted c = ap Some c.info_of.ensures
