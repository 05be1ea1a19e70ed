use Rattle.server_clients.specs.declared.reason.Reason.TheVariants.{Reset}
use Rattle.server_clients.proofs.Events.{abort_runs, runs_steps}
use Rattle.server_clients.proofs.client_connection.ClientConnection.turn.Goals as goal

pub returns-then-is_ending : goal.returns-then-is_ending
returns-then-is_ending g c =
    runs_steps g.B.Backend g.M.Moments c.args.context.explaining c.args.context.tokens.now c.args.backend.now c.args.moments.now _ _ _ _ c.skip.ensures

pub returns-then-self : goal.returns-then-self
returns-then-self g c =
    abort_runs g.B.Backend g.M.Moments c.args.context.explaining c.args.context.tokens.now c.args.backend.now c.args.moments.now _ _ Reset c.abort.ensures (g.N.Sockets.history c.args.sockets.now)
