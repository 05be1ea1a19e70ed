use Rattle.space_memory.proofs.CellMeetings.{near_answers}
use Rattle.space_memory.proofs.near.near.Goals as goal

pub returns : goal.returns
returns c = near_answers c.gather_all.result c.args.marks.now c.in_ok-spans.spans c.args.areas.now c.gather_all.ensures c.in_ok-spans.ensures
