use Rattle.std.specs.Prelude.{IfSome}
use Rattle.server_clients.proofs.Queues.{IsFound, IsLeastOf}
use Rattle.server_clients.proofs.fair_queue.FairQueue.next_class.Given as goal

abbrev pub invariant-loop-index : goal.invariant-loop-index
invariant-loop-index l = IsLeastOf l.self l.index l.least × IfSome l.found (IsFound l.self l.least)
