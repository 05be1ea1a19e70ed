use Rattle.server.specs.Runs.{IsOpen, IsQuiet}
use Rattle.server.proofs.Turns.{in_as, in_changes, in_numbered, in_then, quiet_is_open, same_kind}
use Rattle.server.proofs.event_loop.EventLoop.run_once.Goals as goal

pub returns-then-not-has_request : goal.returns-then-not-has_request
returns-then-not-has_request g c = in_changes g.B.Backend g.M.Moments g.T.TokenSource c.args.context.explaining c.args.context.tokens.now c.args.watches.now IsQuiet _ _ _ _ _ _ c.move_all.ensures

pub answer_waiting-requires : goal.answer_waiting-requires
answer_waiting-requires g c = record { numbered = in_numbered g.B.Backend g.M.Moments g.T.TokenSource c.args.context.explaining c.args.context.tokens.now c.args.watches.now IsQuiet IsQuiet _ _ _ _ (in_changes g.B.Backend g.M.Moments g.T.TokenSource c.args.context.explaining c.args.context.tokens.now c.args.watches.now IsQuiet _ c.args.moments.now _ _ _ _ c.move_all.ensures) c.requires.numbered }

pub end_batch-requires : goal.end_batch-requires
end_batch-requires g c = record {
  numbered =
      in_numbered g.B.Backend g.M.Moments g.T.TokenSource c.args.context.explaining c.args.context.tokens.now c.args.watches.now IsOpen IsOpen _ _ _ _
      (in_then g.B.Backend g.M.Moments g.T.TokenSource c.args.context.explaining c.args.context.tokens.now c.args.watches.now IsOpen IsOpen IsOpen _ _ _ _ _ _ (in_changes g.B.Backend g.M.Moments g.T.TokenSource c.args.context.explaining c.args.context.tokens.now c.args.watches.now IsOpen _ _ _ _ _ _ c.move_all.ensures) c.answer_waiting.ensures) c.requires.numbered;
}

pub returns : goal.returns
returns g c =
    in_then g.B.Backend g.M.Moments g.T.TokenSource c.args.context.explaining c.args.context.tokens.now c.args.watches.now IsQuiet IsQuiet IsQuiet _ _ _ _ _ _ (in_changes g.B.Backend g.M.Moments g.T.TokenSource c.args.context.explaining c.args.context.tokens.now c.args.watches.now IsQuiet _ _ _ _ _ _ c.move_all.ensures)
    (in_then g.B.Backend g.M.Moments g.T.TokenSource c.args.context.explaining c.args.context.tokens.now c.args.watches.now IsQuiet IsOpen IsQuiet _ _ _ _ _ _
    (in_as g.B.Backend g.M.Moments g.T.TokenSource c.args.context.explaining c.args.context.tokens.now c.args.watches.now IsOpen IsOpen IsQuiet IsOpen _ _ _ _ quiet_is_open (same_kind IsOpen) c.answer_waiting.ensures) c.end_batch.ensures)
