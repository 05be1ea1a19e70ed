use Rattle.std.proofs.Common.{subst}
use Rattle.std.specs.Prelude.{◌≡◌, IfOk}
use Rattle.entity_core.specs.Airspace.{Airspace}
use Rattle.entity_maps.specs.Lists.{airspace_of}
use Rattle.space_mirror.specs.Mirrored.{MirroredModel, IsSoundIn, pending_if_mirrored, mirrored_model, holds_in}
use Rattle.space_mirror.proofs.mirrored.MirroredSnapshotSource.snapshot.Goals as goal

pub returns : goal.returns
returns g c =
    let Shows : MirroredModel g.row.S.Denot → Type 0 = λ k. IfOk c.snapshot_of.result (λ snapshot_of. (a : Airspace) → holds_in g.S.Space k a → a ≡ airspace_of snapshot_of.entities.now snapshot_of.subscriptions.now snapshot_of.availabilities.now snapshot_of.serial) in
    subst (λ k. IsSoundIn g.S.Space k → Shows k) c.self.view_is (λ sound. subst (λ batch. Shows (mirrored_model c.self.inside.store (pending_if_mirrored c.self.inside.mirror batch) 0)) c.deref.ensures.value (c.snapshot_of.ensures sound.store))
