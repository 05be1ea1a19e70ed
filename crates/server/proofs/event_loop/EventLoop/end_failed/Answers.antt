use Rattle.std.proofs.Common.{refl}
use Rattle.server_clients.proofs.Sets.{changes_none}
use Rattle.server.proofs.event_loop.EventLoop.end_failed.Goals as goal

pub returns-in_default : goal.returns-in_default
returns-in_default g c = changes_none _ _ _ _ refl refl
