use Rattle.std.proofs.Common.{subst, sym}
use Rattle.entity_core.specs.Airspace.{Airspace}
use Rattle.entity_purge.specs.PurgeItem.{CanPurgeAll}
use Rattle.space_mirror.specs.Mirrored.{MirroredModel, IsSoundIn, pending_if_mirrored, mirrored_model, holds_in}
use Rattle.space_mirror.specs.Purges.{MirrorPurgeEffect}
use Rattle.space_mirror.proofs.mirrored.MirroredPurgeEnded.purge.Goals as goal

pub purge_both-requires-clause-can : goal.purge_both-requires-clause-can
purge_both-requires-clause-can g c =
    let Can : MirroredModel g.row.S.Denot → Type 0 = λ k. IsSoundIn g.S.Space k → (a : Airspace) → holds_in g.S.Space k a → CanPurgeAll c.args.gone.now a in
    subst (λ batch. Can (mirrored_model c.self.inside.store (pending_if_mirrored c.self.inside.mirror batch) c.self.inside.refusals)) (sym c.deref.ensures.value) (subst Can (sym c.self.view_is) c.requires.can)

pub returns-clause-changes : goal.returns-clause-changes
returns-clause-changes g c =
    let going = subst (λ batch. MirrorPurgeEffect {T = Unit {0}} g.S.Space (mirrored_model c.self.inside.store (pending_if_mirrored c.self.inside.mirror batch) c.self.inside.refusals) (mirrored_model c.purge_both.new.store (pending_if_mirrored c.purge_both.new.mirror batch) c.purge_both.new.refusals) c.purge_both.result c.args.gone.now) c.deref.ensures.value c.purge_both.ensures.going in
    rw (← c.self.view_is) going.changes
