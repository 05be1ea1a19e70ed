use Rattle.server_clients.specs.ClientSet.{clients_of}
use Rattle.server.specs.Runs.{IsQuiet, RunsIn}
use Rattle.server.specs.Watches.{server_state}
use Rattle.server.proofs.event_loop.EventLoop.note_all_due.Given as goal

abbrev pub invariant-loop : goal.invariant-loop
invariant-loop g l =
    RunsIn g.B.Backend g.M.Moments g.T.TokenSource l.fn.context.explaining IsQuiet IsQuiet
    (server_state l.fn.backend (clients_of g.N.Client.ClientSocket.name l.fn.self.clients) l.fn._moments l.fn.context.tokens.now l.fn.watches)
    (server_state l.backend (clients_of g.N.Client.ClientSocket.name l.self.clients) l.fn._moments l.fn.context.tokens.now l.fn.watches)
    (g.N.Sockets.history l.fn._sockets) (g.N.Sockets.history l.fn._sockets)
