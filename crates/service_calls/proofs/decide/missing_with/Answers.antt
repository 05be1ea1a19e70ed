use Rattle.std.proofs.Common.{sym}
use Rattle.service_step.proofs.Looked.{looks_none}
use Rattle.service_calls.proofs.Evaluated.{needs_nothing}
use Rattle.service_calls.proofs.decide.missing_with.Goals as goal

pub returns-then-not-needs_key : goal.returns-then-not-needs_key
returns-then-not-needs_key g c =
    looks_none g.S.Space c.args.space.now c.empty.result _
    (λ a. needs_nothing a c.args.evaluated.now c.empty.result (sym c.if-not-needs_key.ensures) c.empty.ensures)
