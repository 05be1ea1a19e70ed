use Rattle.std.proofs.Common.{◌∙◌, ap, refl}
use Rattle.server_clients.specs.ClientSet.{clients_of}
use Rattle.server_clients.proofs.Sets.{clients_kept}
use Rattle.server_clients.proofs.client_set.ClientSet.await_large_buffer.Goals as goal
use Rattle.server_clients.proofs.client_set.ClientSet.await_large_buffer.Goals.{then-wants_large_buffer-via-then-wants_large_buffer, then-wants_large_buffer-via-else-wants_large_buffer+then-is_err}

pub returns : goal.returns
returns g c = clients_kept g.T.ClientSocket.name c.args.self.now.connections c.args.key c.in-Some.client.now c.request_large_buffer.new.self c.in-Some.ensures.value c.request_large_buffer.ensures

pub returns-then-wants_large_buffer : goal.returns-then-wants_large_buffer
returns-then-wants_large_buffer g c =
    (elim c.then-wants_large_buffer.branch [
      | then-wants_large_buffer-via-then-wants_large_buffer w ↦ ap (λ v. clients_of g.T.ClientSocket.name v) w.self-is
      | then-wants_large_buffer-via-else-wants_large_buffer+then-is_err w ↦ ap (λ v. clients_of g.T.ClientSocket.name v) w.self-is
    ]) ∙ clients_kept g.T.ClientSocket.name c.args.self.now.connections c.args.key c.in-Some.client.now c.in-Some.client.now c.in-Some.ensures.value refl
