use Rattle.std.proofs.Common.{ap, refl}
use Rattle.server_clients.specs.ServerEvents.{Clients}
use Rattle.server.specs.Runs.{IsQuiet}
use Rattle.server.specs.Watches.{server_state}
use Rattle.server.proofs.Turns.{in_none, in_numbered, in_then}
use Rattle.server.proofs.event_loop.EventLoop.answer_due.Goals as goal

pub returns-then-is_empty : goal.returns-then-is_empty
returns-then-is_empty g c = c.note_all_due.ensures

pub loop-init : goal.loop-init
loop-init g c = c.note_all_due.ensures

pub returns-in_default : goal.returns-in_default
returns-in_default g c = c.loop.invariant

pub answer_ticket-requires : goal.answer_ticket-requires
answer_ticket-requires g c = record {
  numbered = in_numbered g.B.Backend g.M.Moments g.T.TokenSource c.args.context.explaining c.args.context.tokens.now c.args.watches.now IsQuiet IsQuiet _ _ _ _ c.loop.invariant c.requires.numbered;
}

pub returns-then-is_round_over : goal.returns-then-is_round_over
returns-then-is_round_over g c =
    in_then g.B.Backend g.M.Moments g.T.TokenSource c.args.context.explaining c.args.context.tokens.now c.args.watches.now IsQuiet IsQuiet IsQuiet _ _ _ _ _ _
    (in_then g.B.Backend g.M.Moments g.T.TokenSource c.args.context.explaining c.args.context.tokens.now c.args.watches.now IsQuiet IsQuiet IsQuiet _ _ _ _ _ _ c.loop.invariant c.answer_ticket.ensures)
    (in_none g.B.Backend g.M.Moments g.T.TokenSource c.args.context.explaining c.args.context.tokens.now c.args.watches.now IsQuiet _ _ _ _
    (ap (λ (v : Clients). server_state c.answer_ticket.new.backend v c.answer_ticket.new.moments c.args.context.tokens.now c.args.watches.now) c.charge_due.ensures) refl)

pub loop-preserved : goal.loop-preserved
loop-preserved g c =
    in_then g.B.Backend g.M.Moments g.T.TokenSource c.args.context.explaining c.args.context.tokens.now c.args.watches.now IsQuiet IsQuiet IsQuiet _ _ _ _ _ _
    (in_then g.B.Backend g.M.Moments g.T.TokenSource c.args.context.explaining c.args.context.tokens.now c.args.watches.now IsQuiet IsQuiet IsQuiet _ _ _ _ _ _ c.loop.invariant c.answer_ticket.ensures)
    (in_none g.B.Backend g.M.Moments g.T.TokenSource c.args.context.explaining c.args.context.tokens.now c.args.watches.now IsQuiet _ _ _ _
    (ap (λ (v : Clients). server_state c.answer_ticket.new.backend v c.answer_ticket.new.moments c.args.context.tokens.now c.args.watches.now) c.charge_due.ensures) refl)

pub returns : goal.returns
returns g c = c.loop.invariant
