use Rattle.std.proofs.Common.{◌∙◌, ap, refl}
use Rattle.server_clients.specs.ClientConnection.{state_of_client}
use Rattle.server_clients.specs.ClientSet.{clients_of, clients_with}
use Rattle.server_clients.proofs.Sets.{changes_closed, changes_none}
use Rattle.server_clients.proofs.client_set.ClientSet.close.Goals as goal
use Rattle.server_clients.proofs.client_set.ClientSet.close.Goals.{then-is_ending, else-is_ending}

pub returns-in_default : goal.returns-in_default
returns-in_default g c = λ past. changes_none _ _ past past (ap (λ v. clients_with g.T.ClientSocket.name v) c.in_default.ensures.absent) refl

pub returns-then-has_large_buffer : goal.returns-then-has_large_buffer
returns-then-has_large_buffer g c =
    changes_closed g.T.ClientSocket.name c.args.self.now.connections c.try_remove.new.self c.args.key c.in-Some.client (state_of_client g.T.ClientSocket.name c.conclude.new.self) _
    c.in-Some.ensures.value c.try_remove.ensures.updates c.conclude.ensures.steps c.conclude.ensures.closable
    (c.add_large_buffer.ensures ∙ (elim c.if-is_ending.branch [
      | then-is_ending w ↦ ap (λ v. clients_of g.T.ClientSocket.name v) w.self-is
      | else-is_ending w ↦ ap (λ v. clients_of g.T.ClientSocket.name v) w.self-is
    ]))

pub returns : goal.returns
returns g c =
    changes_closed g.T.ClientSocket.name c.args.self.now.connections c.try_remove.new.self c.args.key c.in-Some.client (state_of_client g.T.ClientSocket.name c.conclude.new.self) _
    c.in-Some.ensures.value c.try_remove.ensures.updates c.conclude.ensures.steps c.conclude.ensures.closable
    (elim c.if-is_ending.branch [
      | then-is_ending w ↦ ap (λ v. clients_of g.T.ClientSocket.name v) w.self-is
      | else-is_ending w ↦ ap (λ v. clients_of g.T.ClientSocket.name v) w.self-is
    ])
