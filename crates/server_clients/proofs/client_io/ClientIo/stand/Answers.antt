use Rattle.std.proofs.Common.{arith}
use Rattle.server_clients.proofs.Tellings.{stood, unknown}
use Rattle.server_clients.proofs.client_io.ClientIo.stand.Goals as goal

pub returns-then-has_deferred-clause-resolved : goal.returns-then-has_deferred-clause-resolved
returns-then-has_deferred-clause-resolved g c =
    stood c.args.self.now.connection c.release.new.self (grind (arith, c.has_deferred.ensures, c.if-has_deferred.true)) c.release.ensures.output c.release.ensures.ready c.release.ensures.held c.release.ensures.left c.release.ensures.ended c.release.ensures.done

pub returns-clause-resolved : goal.returns-clause-resolved
returns-clause-resolved g c =
    unknown _ c.args.self.now.connection c.resolve_unavailable.new.self c.resolve_unavailable.result (grind (arith, c.has_deferred.ensures, c.if-has_deferred.false))
    c.resolve_unavailable.ensures.resolves c.resolve_unavailable.ensures.lost c.resolve_unavailable.ensures.done
