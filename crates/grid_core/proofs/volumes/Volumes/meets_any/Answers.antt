use Rattle.std.proofs.Common.{◌≡◌, rules}
use Rattle.grid_core.specs.Extent.{any_meet}
use Rattle.grid_core.proofs.Meets.{any_meet_test}
use Rattle.grid_core.proofs.volumes.Volumes.meets_any.Goals as goal

pub returns-clause-relation : goal.returns-clause-relation
returns-clause-relation c =
    let e : c.any_meet.result ≡ any_meet c.args.self.now c.args.areas.now = search rules in
    any_meet_test c.args.self.now c.args.areas.now c.any_meet.result e
