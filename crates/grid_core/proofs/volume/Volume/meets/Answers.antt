use Rattle.grid_core.specs.Extent.{region_of}
use Rattle.grid_core.proofs.Meets.{meet_test}
use Rattle.grid_core.proofs.volume.Volume.meets.Goals as goal

pub returns-clause-relation : goal.returns-clause-relation
returns-clause-relation c = meet_test (region_of c.args.self.now) c.args.area.now c.is_meeting.result c.is_meeting.ensures
