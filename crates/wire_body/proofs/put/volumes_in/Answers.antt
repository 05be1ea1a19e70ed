use Rattle.serde_json.specs.View.{view}
use Rattle.wire_body.proofs.Lengths.{no_volumes}
use Rattle.wire_body.proofs.put.volumes_in.Goals as goal

pub returns-then-items-gt32 : goal.returns-then-items-gt32
returns-then-items-gt32 c =
    no_volumes (view c.args.value.now) c.in-Some.items.now.items c.as_slice-items.result.now c.in-Some.ensures c.as_slice-items.ensures.value c.if-items-gt32.true
