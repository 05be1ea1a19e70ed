use Rattle.server.specs.Runs.{IsOpen, IsQuiet}
use Rattle.server.proofs.Turns.{in_as, in_numbered, in_then, quiet_is_open, same_kind}
use Rattle.server.proofs.event_loop.EventLoop.answer_one.Goals as goal

pub end_batch-requires : goal.end_batch-requires
end_batch-requires g c = record { numbered = in_numbered g.B.Backend g.M.Moments g.T.TokenSource c.args.context.explaining c.args.context.tokens.now c.args.watches.now IsOpen IsOpen _ _ _ _ c.turn.ensures c.requires.numbered }

pub returns-then-not-are_enough : goal.returns-then-not-are_enough
returns-then-not-are_enough g c = c.turn.ensures

pub returns : goal.returns
returns g c =
    in_then g.B.Backend g.M.Moments g.T.TokenSource c.args.context.explaining c.args.context.tokens.now c.args.watches.now IsOpen IsOpen IsOpen _ _ _ _ _ _ c.turn.ensures
    (in_as g.B.Backend g.M.Moments g.T.TokenSource c.args.context.explaining c.args.context.tokens.now c.args.watches.now IsOpen IsQuiet IsOpen IsOpen _ _ _ _ (same_kind IsOpen) quiet_is_open c.end_batch.ensures)
