use Rattle.std.proofs.Common.{ap, ◌∙◌}
use Rattle.serde_json.specs.View.{view}
use Rattle.wire_reply.specs.Reference.{reference_name}
use Rattle.admin_airspace.proofs.Shown.{shown_as}
use Rattle.admin_airspace.proofs.reference.entity_json.Goals as goal

pub returns : goal.returns
returns c =
    shown_as c.both_json.result c.args.entity.now c.args.availability (view c.in_ok-extents.extents) (view c.in_ok-reference.reference) c.reference_name-name.result.now
    (c.reference_name-name.ensures ∙ ap reference_name c.kind.ensures) c.in_ok-reference.ensures c.both_json.ensures
