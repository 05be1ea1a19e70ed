use Rattle.std.specs.Prelude.{◌≡◌}
use Rattle.server_admin.proofs.admin_connections.AdminConnections.accept.Given as goal

abbrev pub invariant-loop : goal.invariant-loop
invariant-loop g l = g.N.Sockets.history l.sockets ≡ g.N.Sockets.history l.fn.sockets
