use Rattle.std.proofs.Common.{refl, subst}
use Rattle.std.specs.Prelude.{ℕ, false}
use Rattle.server_clients.specs.ClientSet.{AddsIf, clients_of}
use Rattle.server.proofs.event_loop.EventLoop.take_in.Goals as goal

pub returns-then-is_err-clause-adds : goal.returns-then-is_err-clause-adds
returns-then-is_err-clause-adds g c = (false, refl)

pub returns-then-not-insert-clause-adds : goal.returns-then-not-insert-clause-adds
returns-then-not-insert-clause-adds g c = (c.insert.result, subst (λ (n : ℕ). AddsIf c.insert.result n (clients_of g.N.Client.ClientSocket.name c.args.self.now.clients) (clients_of g.N.Client.ClientSocket.name c.insert.new.self)) c.watch.ensures.name c.insert.ensures)
