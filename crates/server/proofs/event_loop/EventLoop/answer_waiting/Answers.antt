use Rattle.std.proofs.Common.{refl}
use Rattle.server.specs.Runs.{IsOpen}
use Rattle.server.proofs.Turns.{in_found, in_none, in_numbered, in_then}
use Rattle.server.proofs.event_loop.EventLoop.answer_waiting.Goals as goal

pub loop-init : goal.loop-init
loop-init g c = in_none g.B.Backend g.M.Moments g.T.TokenSource c.args.context.explaining c.args.context.tokens.now c.args.watches.now IsOpen _ _ _ _ refl refl

pub returns-in_default : goal.returns-in_default
returns-in_default g c = in_found g.B.Backend g.M.Moments g.T.TokenSource c.args.context.explaining c.args.context.tokens.now c.args.watches.now IsOpen IsOpen _ _ _ _ _ _ _ _ _ _ refl c.pick.ensures c.loop.invariant

pub answer_one-requires : goal.answer_one-requires
answer_one-requires g c = record { numbered = in_numbered g.B.Backend g.M.Moments g.T.TokenSource c.args.context.explaining c.args.context.tokens.now c.args.watches.now IsOpen IsOpen _ _ _ _ (in_found g.B.Backend g.M.Moments g.T.TokenSource c.args.context.explaining c.args.context.tokens.now c.args.watches.now IsOpen IsOpen _ _ _ _ _ _ _ _ _ _ refl c.pick.ensures c.loop.invariant) c.requires.numbered }

pub loop-preserved : goal.loop-preserved
loop-preserved g c = in_then g.B.Backend g.M.Moments g.T.TokenSource c.args.context.explaining c.args.context.tokens.now c.args.watches.now IsOpen IsOpen IsOpen _ _ _ _ _ _ (in_found g.B.Backend g.M.Moments g.T.TokenSource c.args.context.explaining c.args.context.tokens.now c.args.watches.now IsOpen IsOpen _ _ _ _ _ _ _ _ _ _ refl c.pick.ensures c.loop.invariant) c.answer_one.ensures

pub returns-then-is_round_over : goal.returns-then-is_round_over
returns-then-is_round_over g c = in_then g.B.Backend g.M.Moments g.T.TokenSource c.args.context.explaining c.args.context.tokens.now c.args.watches.now IsOpen IsOpen IsOpen _ _ _ _ _ _ (in_found g.B.Backend g.M.Moments g.T.TokenSource c.args.context.explaining c.args.context.tokens.now c.args.watches.now IsOpen IsOpen _ _ _ _ _ _ _ _ _ _ refl c.pick.ensures c.loop.invariant) c.answer_one.ensures

pub returns : goal.returns
returns g c = c.loop.invariant
