use Rattle.std.proofs.Common.{◌∙◌, ap, refl, subst, sym}
use Rattle.server_clients.specs.ServerEvents.{Clients}
use Rattle.server_clients.specs.Turns.{ticket_at}
use Rattle.server.specs.Numbers.{IsAlone}
use Rattle.server.proofs.Numbers.{told_found, told_none}
use Rattle.server.proofs.event_loop.EventLoop.tell.Goals as goal

pub returns-in_default : goal.returns-in_default
returns-in_default g c = told_none c.args.ticket c.args.outcome _ _ _ _ c.in_default.ensures.none c.find.ensures.same refl

pub tell_client-requires-clause-waits : goal.tell_client-requires-clause-waits
tell_client-requires-clause-waits g c = ap (λ (v : Clients). ticket_at v c.in-Some.key) c.find.ensures.same ∙ c.in-Some.ensures.found

pub tell_client-requires-clause-alone : goal.tell_client-requires-clause-alone
tell_client-requires-clause-alone g c = subst (λ (v : Clients). IsAlone c.args.ticket v) (sym c.find.ensures.same) c.requires.alone

pub returns : goal.returns
returns g c = told_found c.args.ticket c.args.outcome _ _ _ _ _ c.find.ensures.same c.tell_client.ensures
