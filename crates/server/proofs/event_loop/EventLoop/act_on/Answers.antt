use Rattle.server_clients.specs.ClientSet.{clients_of}
use Rattle.server_clients.proofs.Sets.{changes_then}
use Rattle.server.proofs.event_loop.EventLoop.act_on.Goals as goal

pub returns : goal.returns
returns g c =
    changes_then _ (clients_of g.N.Client.ClientSocket.name c.end_failed-turned.new.self.clients) _ _ _ _ c.end_failed-turned.ensures (c.schedule.ensures _)
