use Rattle.std.proofs.Common.{[], refl}
use Rattle.server.proofs.Turns.{forgets_more}
use Rattle.server.proofs.event_loop.EventLoop.forget_gone.Goals as goal

pub loop-init : goal.loop-init
loop-init g c = (([], refl), refl)

pub loop-preserved : goal.loop-preserved
loop-preserved g c = (forgets_more g.B.Backend _ _ _ _ c.loop.invariant.0 c.forget.ensures, c.loop.invariant.1)

pub returns-in_default-clause-forgets : goal.returns-in_default-clause-forgets
returns-in_default-clause-forgets g c = c.loop.invariant.0

pub returns-in_default-clause-clients : goal.returns-in_default-clause-clients
returns-in_default-clause-clients g c = c.loop.invariant.1

pub returns-clause-forgets : goal.returns-clause-forgets
returns-clause-forgets g c = c.loop.invariant.0

pub returns-clause-clients : goal.returns-clause-clients
returns-clause-clients g c = c.loop.invariant.1
