use Rattle.std.proofs.Common.{None, Some, refl}
use Rattle.server.specs.Runs.{IsQuiet}
use Rattle.server.proofs.Turns.{in_announced, in_answered, in_changes, in_none, in_read, in_then}
use Rattle.server.proofs.event_loop.EventLoop.answer_ticket.Goals as goal

pub returns-then-not-waits_under : goal.returns-then-not-waits_under
returns-then-not-waits_under g c = in_none g.B.Backend g.M.Moments g.T.TokenSource c.args.context.explaining c.args.context.tokens.now c.args.watches.now IsQuiet _ _ _ _ refl refl

pub returns-in_default : goal.returns-in_default
returns-in_default g c =
    in_then g.B.Backend g.M.Moments g.T.TokenSource c.args.context.explaining c.args.context.tokens.now c.args.watches.now IsQuiet IsQuiet IsQuiet _ _ _ _ _ _
    (in_read g.B.Backend g.M.Moments g.T.TokenSource c.args.context.explaining c.args.context.tokens.now c.args.watches.now IsQuiet c.args.key c.args.ticket None _ _ _ _ _ _ _ (c.waits_under.ensures c.if-not-waits_under.false) c.in_default.ensures.err refl refl)
    (in_changes g.B.Backend g.M.Moments g.T.TokenSource c.args.context.explaining c.args.context.tokens.now c.args.watches.now IsQuiet _ _ _ _ _ _ c.conclude.ensures)

pub returns-in_default-answer : goal.returns-in_default-answer
returns-in_default-answer g c =
    in_then g.B.Backend g.M.Moments g.T.TokenSource c.args.context.explaining c.args.context.tokens.now c.args.watches.now IsQuiet IsQuiet IsQuiet _ _ _ _ _ _
    (in_read g.B.Backend g.M.Moments g.T.TokenSource c.args.context.explaining c.args.context.tokens.now c.args.watches.now IsQuiet c.args.key c.args.ticket (Some c.in-Ok.moment) _ _ _ _ _ _ _
    (c.waits_under.ensures c.if-not-waits_under.false) c.in-Ok.ensures.moment refl refl)
    (in_announced g.B.Backend g.M.Moments g.T.TokenSource c.args.context.explaining c.args.context.tokens.now c.args.watches.now IsQuiet None _ _ _ _ _ c.in_default-answer.ensures)

pub tell_client-requires-clause-waits : goal.tell_client-requires-clause-waits
tell_client-requires-clause-waits g c = c.waits_under.ensures c.if-not-waits_under.false

pub tell_client-requires-clause-alone : goal.tell_client-requires-clause-alone
tell_client-requires-clause-alone g c = c.requires.numbered.alone c.args.ticket

pub returns : goal.returns
returns g c =
    in_answered g.B.Backend g.M.Moments g.T.TokenSource c.args.context.explaining c.args.context.tokens.now c.args.watches.now IsQuiet c.in-Ok.moment c.args.ticket c.in-Some.outcome _ _ _ _ _ _ _ _ _
    c.in-Ok.ensures.moment c.in-Some.ensures refl c.tell_client.ensures
