use Rattle.std.proofs.Common.{Some}
use Rattle.std.specs.Prelude.{◌==◌}
use Rattle.wire_http.proofs.connection.Connection.wait.Goals as goal

pub returns : goal.returns
returns c = record {
  takes = record {
    held = c.pass.ensures.held;
    left = c.pass.ensures.left;
    ended = c.pass.ensures.ended;
    done = c.pass.ensures.done;
  };
  output = c.pass.ensures.output;
  ready = c.pass.ensures.ready;
  slot = c.pass.ensures.slot;
  awaited = λ i. Some (record {
    endpoint = c.args.next.routed.endpoint;
    closing = c.args.next.left == 0;
    texts = c.args.texts;
    operation = c.args.next.routed.kind;
    supplier = c.supplier_of.ensures i;
    entity = c.args.next.routed.entity;
  });
  noted = c.pass.ensures.noted;
}
