use Rattle.std.proofs.Common.{ap, refl}
use Rattle.server_clients.specs.ServerEvents.{Clients}
use Rattle.server.specs.Runs.{IsQuiet}
use Rattle.server.specs.Watches.{server_state}
use Rattle.server.proofs.Turns.{in_announced, in_none, in_then}
use Rattle.server.proofs.event_loop.EventLoop.note_all_due.Goals as goal

pub loop-init : goal.loop-init
loop-init g c = in_none g.B.Backend g.M.Moments g.T.TokenSource c.args.context.explaining c.args.context.tokens.now c.args.watches.now IsQuiet _ _ _ _ refl refl

pub returns-in_default : goal.returns-in_default
returns-in_default g c =
    in_then g.B.Backend g.M.Moments g.T.TokenSource c.args.context.explaining c.args.context.tokens.now c.args.watches.now IsQuiet IsQuiet IsQuiet _ _ _ _ _ _ c.loop.invariant
    (in_announced g.B.Backend g.M.Moments g.T.TokenSource c.args.context.explaining c.args.context.tokens.now c.args.watches.now IsQuiet _ _ _ _ _ _ c.next_due.ensures)

pub loop-preserved : goal.loop-preserved
loop-preserved g c =
    in_then g.B.Backend g.M.Moments g.T.TokenSource c.args.context.explaining c.args.context.tokens.now c.args.watches.now IsQuiet IsQuiet IsQuiet _ _ _ _ _ _
    (in_then g.B.Backend g.M.Moments g.T.TokenSource c.args.context.explaining c.args.context.tokens.now c.args.watches.now IsQuiet IsQuiet IsQuiet _ _ _ _ _ _ c.loop.invariant
    (in_announced g.B.Backend g.M.Moments g.T.TokenSource c.args.context.explaining c.args.context.tokens.now c.args.watches.now IsQuiet _ _ _ _ _ _ c.next_due.ensures))
    (in_none g.B.Backend g.M.Moments g.T.TokenSource c.args.context.explaining c.args.context.tokens.now c.args.watches.now IsQuiet _ _ _ _
    (ap (λ (v : Clients). server_state c.next_due.new.self v c.args._moments.now c.args.context.tokens.now c.args.watches.now) c.note_due.ensures) refl)

pub returns : goal.returns
returns g c = c.loop.invariant
