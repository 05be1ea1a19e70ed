use Rattle.std.proofs.Common.{◌≡◌}
use Rattle.test_simulation.proofs.sockets.SimSockets.step_peers.Given as goal

abbrev pub invariant-loop-name : goal.invariant-loop-name
invariant-loop-name l = l.self.events ≡ l.fn.self.events
