use Rattle.server_clients.specs.ClientSet.{clients_of}
use Rattle.server.specs.Runs.{IsSettled, RunsIn}
use Rattle.server.specs.Watches.{server_state}
use Rattle.server.proofs.event_loop.EventLoop.tell_all.Given as goal

abbrev pub invariant-loop-given : goal.invariant-loop-given
invariant-loop-given g l =
    RunsIn g.B.Backend g.M.Moments g.T.TokenSource l.fn.context.explaining IsSettled IsSettled
    (server_state l.fn.backend (clients_of g.N.Client.ClientSocket.name l.fn.self.clients) l.fn._moments l.fn.context.tokens.now l.fn.watches)
    (server_state l.backend (clients_of g.N.Client.ClientSocket.name l.self.clients) l.fn._moments l.fn.context.tokens.now l.fn.watches)
    (g.N.Sockets.history l.fn.sockets) (g.N.Sockets.history l.sockets)

abbrev pub decreases-loop-given : goal.decreases-loop-given
decreases-loop-given g l = g.B.Backend.outcomes l.backend
