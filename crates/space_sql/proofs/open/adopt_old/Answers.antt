use Rattle.std.proofs.Common.{subst}
use Rattle.sqlite.specs.Held.{state}
use Rattle.sqlite.specs.State.{HasCleanDisk}
use Rattle.space_sql.proofs.open.adopt_old.Goals as goal

pub returns-in-Ok-clause-taken : goal.returns-in-Ok-clause-taken
returns-in-Ok-clause-taken g c = λ sound schema.
    let clean = subst (λ h. HasCleanDisk (state g.S.Store h)) c.space_over.ensures.same sound.clean in
    let it = c.in-Ok.ensures.moves clean schema in
    (it.0, it.1, c.space_over.ensures.content sound (c.in-Ok.ensures.settled clean) it.0 it.2)
