use Rattle.std.proofs.Common.{subst, sym}
use Rattle.entity_core.specs.Airspace.{Airspace}
use Rattle.space_core.specs.Space.{Fits}
use Rattle.space_mirror.specs.Mirrored.{IsSoundIn, holds_in}
use Rattle.space_mirror.proofs.mirrored.MirroredSpace.apply.Goals as goal

pub apply-requires-clause-fits : goal.apply-requires-clause-fits
apply-requires-clause-fits g c =
    subst (λ k. IsSoundIn g.S.Space k → (a : Airspace) → holds_in g.S.Space k a → Fits c.args.change c.args.notify.now a) (sym c.self.view_is) c.requires.fits

pub returns-clause-changes : goal.returns-clause-changes
returns-clause-changes g c = rw (← c.self.view_is) c.apply.ensures.changes.changes
