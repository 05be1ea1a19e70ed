use Rattle.std.proofs.Common.{refl}
use Rattle.server_clients.proofs.Sets.{changes_none, changes_then}
use Rattle.server.proofs.Changes.{changes_found}
use Rattle.server.proofs.event_loop.EventLoop.end_late.Goals as goal

pub returns-in_default : goal.returns-in_default
returns-in_default g c = changes_none _ _ _ _ refl refl

pub returns : goal.returns
returns g c = changes_found _ _ _ _ _ _ (changes_then _ _ _ _ _ _ c.fail_late-turned.ensures (c.schedule.ensures _)) c.count_ending.ensures refl
