use Rattle.std.proofs.Common.{refl}
use Rattle.server.specs.Runs.{IsQuiet, IsSettled}
use Rattle.server.proofs.Turns.{in_given, in_none, in_numbered, in_then, in_told}
use Rattle.server.proofs.event_loop.EventLoop.tell_all.Goals as goal

pub loop-given-init : goal.loop-given-init
loop-given-init g c = in_none g.B.Backend g.M.Moments g.T.TokenSource c.args.context.explaining c.args.context.tokens.now c.args.watches.now IsSettled _ _ _ _ refl refl

pub tell-requires : goal.tell-requires
tell-requires g c = record { alone = (in_numbered g.B.Backend g.M.Moments g.T.TokenSource c.args.context.explaining c.args.context.tokens.now c.args.watches.now IsSettled IsSettled _ _ _ _ c.loop-given.invariant c.requires.numbered).alone _ }

pub loop-given-preserved : goal.loop-given-preserved
loop-given-preserved g c =
    in_then g.B.Backend g.M.Moments g.T.TokenSource c.args.context.explaining c.args.context.tokens.now c.args.watches.now IsSettled IsSettled IsSettled _ _ _ _ _ _ c.loop-given.invariant
    (in_told g.B.Backend g.M.Moments g.T.TokenSource c.args.context.explaining c.args.context.tokens.now c.args.watches.now IsSettled _ _ _ _ _ _ _ _ _ c.in-Some.ensures c.tell.ensures)

pub returns : goal.returns
returns g c =
    in_then g.B.Backend g.M.Moments g.T.TokenSource c.args.context.explaining c.args.context.tokens.now c.args.watches.now IsSettled IsSettled IsQuiet _ _ _ _ _ _ c.loop-given.invariant (in_given g.B.Backend g.M.Moments g.T.TokenSource c.args.context.explaining c.args.context.tokens.now c.args.watches.now _ _ _ _ _ c.in_default.ensures)
