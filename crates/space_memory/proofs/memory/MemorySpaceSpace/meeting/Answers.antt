use Rattle.std.proofs.Common.{sym, ap, ◌∙◌}
use Rattle.entity_core.specs.Airspace.{Airspace}
use Rattle.space_core.specs.Met.{met_in}
use Rattle.space_memory.proofs.memory.MemorySpaceSpace.meeting.Goals as goal

pub returns-in-Ok-clause-reads : goal.returns-in-Ok-clause-reads
returns-in-Ok-clause-reads c = record {
  sound = λ s. s;
  whole = λ s w. w;
  stays = λ s a h. h;
  no_other = λ s a h. h;
  answer = λ s a h. c.in-Ok.ensures c.args.self.now.subscriptions c.args.self.now.serial ∙ ap (λ (b : Airspace). met_in b c.args.kind c.args.areas.now c.args.except) (sym h);
}
