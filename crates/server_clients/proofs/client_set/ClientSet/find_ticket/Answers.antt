use Rattle.std.proofs.Common.{sym, ◌∙◌}
use Rattle.server_clients.proofs.Turns.{left_all, left_found, left_next, left_none, other_ticket, same_ticket}
use Rattle.server_clients.proofs.client_set.ClientSet.find_ticket.Goals as goal

pub loop-entry-init : goal.loop-entry-init
loop-entry-init g c = left_all g.T.ClientSocket.name c.args.ticket c.args.self.now.connections _ (c.into_iter-entry-iterator.ensures.into_iter_gives ∙ c.iter-entry-items.ensures.rest)

pub loop-entry-preserved : goal.loop-entry-preserved
loop-entry-preserved g c =
    left_next g.T.ClientSocket.name c.args.ticket c.args.self.now.connections _ _ _ c.in-Some.ensures.steps
    (λ is. other_ticket c.ticket.result c.args.ticket (sym c.eq.ensures ∙ c.if-eq.false) (c.ticket.ensures ∙ is)) c.loop-entry.invariant

pub returns-then-eq-clause-found : goal.returns-then-eq-clause-found
returns-then-eq-clause-found g c =
    left_found g.T.ClientSocket.name c.args.ticket c.args.self.now.connections _ _ _ c.in-Some.ensures.steps c.loop-entry.invariant
    (sym c.ticket.ensures ∙ same_ticket c.ticket.result c.args.ticket (sym c.eq.ensures ∙ c.if-eq.true))

pub returns-clause-none : goal.returns-clause-none
returns-clause-none g c = left_none g.T.ClientSocket.name c.args.ticket c.args.self.now.connections _ c.in-None.ensures.steps.0 c.loop-entry.invariant
