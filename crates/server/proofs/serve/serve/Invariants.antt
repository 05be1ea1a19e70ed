use Rattle.std.specs.Prelude.{is_some, unwrap_or}
use Rattle.server_clients.specs.ClientSet.{clients_of}
use Rattle.server.specs.Rounds.{start}
use Rattle.server.specs.Watches.{server_state, setup_of}
use Rattle.server.proofs.Rounds.{SoFar}
use Rattle.server.proofs.serve.serve.Given as goal

abbrev pub invariant-loop : goal.invariant-loop
invariant-loop g l =
    SoFar g.B.Backend g.M.Moments g.T.TokenSource (setup_of l.fn.explaining l.fn.tokens (is_some l.fn.operated) (is_some l.fn.limits.count))
    (start g.B.Backend g.M.Moments g.T.TokenSource (setup_of l.fn.explaining l.fn.tokens (is_some l.fn.operated) (is_some l.fn.limits.count)) l.fn.backend l.fn.moments l.fn.clock l.fn.watch)
    (server_state l.backend (clients_of g.N.Client.ClientSocket.name l.event_loop.clients) l.moments (unwrap_or l.newer l.fn.tokens) l.watches)
    (g.N.Sockets.history l.fn.sockets) (g.N.Sockets.history l.sockets)
