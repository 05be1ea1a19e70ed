use Rattle.server_clients.proofs.Events.{runs_steps, runs_then}
use Rattle.server_clients.proofs.Steps.{steps_then}
use Rattle.server_clients.proofs.client_connection.ClientConnection.serve.Goals as goal

pub returns-in_err-turned : goal.returns-in_err-turned
returns-in_err-turned g c =
    runs_steps g.B.Backend g.M.Moments c.args.context.explaining c.args.context.tokens.now c.args.backend.now c.args.moments.now _ _ _ _ c.prepare.ensures

pub returns-in-Some : goal.returns-in-Some
returns-in-Some g c =
    runs_steps g.B.Backend g.M.Moments c.args.context.explaining c.args.context.tokens.now c.args.backend.now c.args.moments.now _ _ _ _ c.prepare.ensures

pub returns-then-is_waiting : goal.returns-then-is_waiting
returns-then-is_waiting g c =
    runs_steps g.B.Backend g.M.Moments c.args.context.explaining c.args.context.tokens.now c.args.backend.now c.args.moments.now _ _ _ _ c.prepare.ensures

pub returns-then-is_done : goal.returns-then-is_done
returns-then-is_done g c =
    runs_steps g.B.Backend g.M.Moments c.args.context.explaining c.args.context.tokens.now c.args.backend.now c.args.moments.now _ _ _ _
    (steps_then _ _ _ _ _ _ c.prepare.ensures c.end.ensures)

pub returns-in_err-asked : goal.returns-in_err-asked
returns-in_err-asked g c =
    runs_then g.B.Backend g.M.Moments c.args.context.explaining c.args.context.tokens.now _ _ _ _ _ _
    (runs_steps g.B.Backend g.M.Moments c.args.context.explaining c.args.context.tokens.now c.args.backend.now c.args.moments.now _ _ _ _ c.prepare.ensures)
    (c.ask.ensures.runs (g.N.Sockets.history c.prepare.new.sockets))

pub returns-then-eq : goal.returns-then-eq
returns-then-eq g c =
    runs_then g.B.Backend g.M.Moments c.args.context.explaining c.args.context.tokens.now _ _ _ _ _ _
    (runs_steps g.B.Backend g.M.Moments c.args.context.explaining c.args.context.tokens.now c.args.backend.now c.args.moments.now _ _ _ _ c.prepare.ensures)
    (c.ask.ensures.runs (g.N.Sockets.history c.prepare.new.sockets))

pub returns-then-is_waiting-2 : goal.returns-then-is_waiting-2
returns-then-is_waiting-2 g c =
    runs_then g.B.Backend g.M.Moments c.args.context.explaining c.args.context.tokens.now _ _ _ _ _ _
    (runs_steps g.B.Backend g.M.Moments c.args.context.explaining c.args.context.tokens.now c.args.backend.now c.args.moments.now _ _ _ _ c.prepare.ensures)
    (c.ask.ensures.runs (g.N.Sockets.history c.prepare.new.sockets))

pub returns : goal.returns
returns g c =
    runs_then g.B.Backend g.M.Moments c.args.context.explaining c.args.context.tokens.now _ _ _ _ _ _
    (runs_then g.B.Backend g.M.Moments c.args.context.explaining c.args.context.tokens.now _ _ _ _ _ _
    (runs_steps g.B.Backend g.M.Moments c.args.context.explaining c.args.context.tokens.now c.args.backend.now c.args.moments.now _ _ _ _ c.prepare.ensures)
    (c.ask.ensures.runs (g.N.Sockets.history c.prepare.new.sockets)))
    (runs_steps g.B.Backend g.M.Moments c.args.context.explaining c.args.context.tokens.now c.ask.new.backend c.ask.new.moments _ _ _ _ c.answered.ensures)
