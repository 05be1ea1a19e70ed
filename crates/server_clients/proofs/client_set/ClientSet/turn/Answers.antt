use Rattle.std.proofs.Common.{inl, ap, refl}
use Rattle.server_clients.specs.Turns.{served_clients}
use Rattle.server_clients.proofs.Sets.{clients_kept}
use Rattle.server_clients.proofs.Turns.{runs_at}
use Rattle.server_clients.proofs.client_set.ClientSet.turn.Goals as goal

pub returns-in_default : goal.returns-in_default
returns-in_default g c = inl (refl, refl)

pub returns-then-not-begin_turn : goal.returns-then-not-begin_turn
returns-then-not-begin_turn g c =
    inl (ap (λ v. served_clients c.args.backend.now c.args.moments.now v) (clients_kept g.T.ClientSocket.name c.args.self.now.connections c.args.key c.in-Some.client.now c.begin_turn.new.self c.in-Some.ensures.value c.begin_turn.ensures), refl)

pub returns : goal.returns
returns g c =
    runs_at g.B.Backend g.M.Moments c.args.context.explaining c.args.context.tokens.now g.T.ClientSocket.name c.args.self.now.connections c.args.key c.in-Some.client.now c.begin_turn.new.self c.turn.new.self
    c.args.backend.now c.turn.new.backend c.args.moments.now c.turn.new.moments _ _ c.in-Some.ensures.value c.begin_turn.ensures c.turn.ensures
