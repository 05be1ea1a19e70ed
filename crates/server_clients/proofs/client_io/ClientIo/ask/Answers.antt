use Rattle.server_clients.proofs.Events.{asked_end, asked_lost, asked_no_time, asked_none, asked_received}
use Rattle.server_clients.proofs.client_io.ClientIo.ask.Goals as goal

pub returns-in-Ok-Ended-clause-runs : goal.returns-in-Ok-Ended-clause-runs
returns-in-Ok-Ended-clause-runs g c =
    asked_end g.B.Backend g.M.Moments c.args.context.explaining c.args.context.tokens.now (g.T.ClientSocket.name c.args.self.now.socket) c.args.self.now.ticket c.args.self.now.why c.args.self.now.connection c.next.new.self c.requires.open c.requires.none_waits
    c.args.backend.now c.args.moments.now c.in-Ok-Ended.end (rw c.in-Ok-Ended.field-0-is at c.in-Ok-Ended.ensures.next) c.next.ensures.awaited

pub returns-in_default-clause-runs : goal.returns-in_default-clause-runs
returns-in_default-clause-runs g c =
    asked_no_time g.B.Backend g.M.Moments c.args.context.explaining c.args.context.tokens.now (g.T.ClientSocket.name c.args.self.now.socket) c.args.self.now.ticket c.args.self.now.why c.args.self.now.connection c.next.new.self c.requires.open c.requires.none_waits
    c.in-Ok-Request.next (rw c.in-Ok-Request.field-0-is at c.in-Ok-Request.ensures.next)
    c.args.backend.now c.args.moments.now c.next-in-Ok-Request.new.self c.in_default.ensures.err

pub returns-in-Ok-offer-clause-runs : goal.returns-in-Ok-offer-clause-runs
returns-in-Ok-offer-clause-runs g c =
    asked_received g.B.Backend g.M.Moments c.args.context.explaining c.args.context.tokens.now (g.T.ClientSocket.name c.args.self.now.socket) c.args.self.now.ticket c.args.self.now.why c.args.self.now.connection c.next.new.self c.requires.open c.requires.none_waits
    c.in-Ok-Request.next (rw c.in-Ok-Request.field-0-is at c.in-Ok-Request.ensures.next)
    c.in-Ok.moment c.args.backend.now c.offer.new.backend c.args.moments.now c.next-in-Ok-Request.new.self c.in-Ok.ensures.moment _ c.in-Ok-offer.ensures

pub returns-in-Err-offer-clause-runs : goal.returns-in-Err-offer-clause-runs
returns-in-Err-offer-clause-runs g c =
    asked_lost g.B.Backend g.M.Moments c.args.context.explaining c.args.context.tokens.now (g.T.ClientSocket.name c.args.self.now.socket) c.args.self.now.ticket c.args.self.now.why c.args.self.now.connection c.next.new.self c.requires.open c.requires.none_waits
    c.in-Ok-Request.next (rw c.in-Ok-Request.field-0-is at c.in-Ok-Request.ensures.next)
    c.in-Ok.moment c.args.backend.now c.offer.new.backend c.args.moments.now c.next-in-Ok-Request.new.self c.in-Ok.ensures.moment _ c.in-Err-offer.ensures

pub returns-in-Err-clause-runs : goal.returns-in-Err-clause-runs
returns-in-Err-clause-runs g c =
    asked_none g.B.Backend g.M.Moments c.args.context.explaining c.args.context.tokens.now (g.T.ClientSocket.name c.args.self.now.socket) c.args.self.now.ticket c.args.self.now.why c.args.self.now.connection c.next.new.self c.requires.open c.requires.none_waits
    c.args.backend.now c.args.moments.now c.in-Err.ensures.lost
