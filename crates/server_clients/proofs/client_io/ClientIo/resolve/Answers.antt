use Rattle.std.proofs.Common.{is_err, subst, sym}
use Rattle.server_backend.specs.declared.outcome.Outcome.{Outcome}
use Rattle.server_clients.specs.Offered.{Resolved}
use Rattle.server_clients.proofs.Tellings.{refused, replied}
use Rattle.server_clients.proofs.client_io.ClientIo.resolve.Goals as goal

pub returns-in-Replied-clause-resolved : goal.returns-in-Replied-clause-resolved
returns-in-Replied-clause-resolved g c =
    subst (λ (v : Outcome). Resolved v (is_err c.resolve.result) c.args.self.now.connection c.resolve.new.self) (sym c.in-Replied.is)
    (replied c.in-Replied.reply _ c.args.self.now.connection c.resolve.new.self c.resolve.result c.resolve.ensures.resolves c.resolve.ensures.lost c.resolve.ensures.done)

pub returns-in-Unavailable-clause-resolved : goal.returns-in-Unavailable-clause-resolved
returns-in-Unavailable-clause-resolved g c =
    subst (λ (v : Outcome). Resolved v (is_err c.resolve_unavailable.result) c.args.self.now.connection c.resolve_unavailable.new.self) (sym c.in-Unavailable.is)
    (refused c.in-Unavailable.reason _ c.args.self.now.connection c.resolve_unavailable.new.self c.resolve_unavailable.result c.resolve_unavailable.ensures.resolves c.resolve_unavailable.ensures.lost c.resolve_unavailable.ensures.done)
