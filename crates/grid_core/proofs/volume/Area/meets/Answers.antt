use Rattle.grid_core.proofs.Meets.{meet_test}
use Rattle.grid_core.proofs.volume.Area.meets.Goals as goal

pub returns-clause-relation : goal.returns-clause-relation
returns-clause-relation c = meet_test c.args.self.now c.args.area.now c.is_meeting.result c.is_meeting.ensures
