use Rattle.std.proofs.Common.{◌∙◌, refl}
use Rattle.server_clients.proofs.Sets.{changes_none}
use Rattle.server.proofs.Changes.{changes_amid}
use Rattle.server.proofs.event_loop.EventLoop.move_one.Goals as goal

pub returns-then-not-contains : goal.returns-then-not-contains
returns-then-not-contains g c = changes_none _ _ _ _ refl refl

pub returns : goal.returns
returns g c = changes_amid _ _ _ _ _ _ _ _ c.move_on-moved.ensures (c.count_for_class.ensures ∙ c.classify_ready-turned.ensures) c.act_on.ensures (c.charge.ensures ∙ c.count_ending.ensures)
