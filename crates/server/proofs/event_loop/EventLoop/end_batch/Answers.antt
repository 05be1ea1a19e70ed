use Rattle.server.specs.Runs.{IsOpen, IsQuiet, IsSettled}
use Rattle.server.proofs.Turns.{in_numbered, in_settled, in_then}
use Rattle.server.proofs.event_loop.EventLoop.end_batch.Goals as goal

pub tell_all-requires : goal.tell_all-requires
tell_all-requires g c = record {
  numbered =
      in_numbered g.B.Backend g.M.Moments g.T.TokenSource c.args.context.explaining c.args.context.tokens.now c.args.watches.now IsOpen IsSettled _ _ _ _ (in_settled g.B.Backend g.M.Moments g.T.TokenSource c.args.context.explaining c.args.context.tokens.now c.args.watches.now _ _ c.args.moments.now _ _ _ _ c.settle-took.ensures.settles c.settle-took.ensures.clients c.settle-took.ensures.history) c.requires.numbered;
}

pub returns : goal.returns
returns g c =
    in_then g.B.Backend g.M.Moments g.T.TokenSource c.args.context.explaining c.args.context.tokens.now c.args.watches.now IsOpen IsSettled IsQuiet _ _ _ _ _ _
    (in_settled g.B.Backend g.M.Moments g.T.TokenSource c.args.context.explaining c.args.context.tokens.now c.args.watches.now _ _ _ _ _ _ _ c.settle-took.ensures.settles c.settle-took.ensures.clients c.settle-took.ensures.history) c.tell_all.ensures
