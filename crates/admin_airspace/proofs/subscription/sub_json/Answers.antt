use Rattle.serde_json.specs.View.{view}
use Rattle.admin_airspace.proofs.Shown.{sub_shown}
use Rattle.admin_airspace.proofs.subscription.sub_json.Goals as goal

pub returns : goal.returns
returns c = sub_shown c.sub_members_json.result c.args.sub.now c.args.availability (view c.in_ok-extents.extents) c.sub_members_json.ensures
