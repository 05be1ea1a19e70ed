use Rattle.std.proofs.Common.{◌∙◌, refl}
use Rattle.server.proofs.event_loop.EventLoop.wait.Goals as goal

pub loop-init : goal.loop-init
loop-init g c = (refl, c.wait.ensures)

pub loop-preserved : goal.loop-preserved
loop-preserved g c = (c.note.ensures ∙ c.loop.invariant.0, c.next_event.ensures ∙ c.loop.invariant.1)
