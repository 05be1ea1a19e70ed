use Rattle.std.proofs.Common.{◌+◌, sym, subst, List, ℤ, drop, to_z, of_z, w64}
use Rattle.std.proofs.lemmas.Int.{to_z-of_z}
use Rattle.grid_core.specs.Extent.{Extent}
use Rattle.space_rows.specs.Volumes.{SpellsVolumes}
use Rattle.space_rows.proofs.ReadSoFar.{ReadSoFar, front_at, is_none, is_some}
use Rattle.space_rows.proofs.VolumeRows.{parts_at, volumes_more, volumes_none, volumes_all, volumes_over}
use Rattle.space_rows.proofs.volumes.volumes_of.Goals as goal

pub loop-place-preserved : goal.loop-place-preserved
loop-place-preserved c =
    let n : ℤ = to_z w64 (of_z w64 c.args.num) in
    subst (ReadSoFar (SpellsVolumes n 0 c.args.volumes.now c.args.cells.now) (SpellsVolumes n (c.loop-place.place + 1) (drop (c.loop-place.place + 1) c.args.volumes.now) c.split_at.result.1.now)) (sym c.in_ok-push-in-Some.ensures.items)
    (volumes_more n c.args.volumes.now c.args.cells.now c.loop-place.place _ c.loop-place.rest.now c.split_at.result.0.now c.split_at.result.1.now c.loop-place.out.items c.in-Some.volume
    (front_at c.args.volumes.now c.loop-place.place _ c.loop-place-test.true)
    (parts_at c.loop-place.place c.count_of.result c.loop-place.rest.now c.split_at.result.0.now c.split_at.result.1.now c.split_at.ensures.front c.split_at.ensures.back c.count_of.ensures.these c.count_of.ensures.others)
    (rw c.in-Some.is at c.in_ok-volume.ensures) c.loop-place.invariant)

pub returns-in-None : goal.returns-in-None
returns-in-None c =
    let n : ℤ = to_z w64 (of_z w64 c.args.num) in
    subst (λ (k : ℤ). (es : List Extent) → ¬ SpellsVolumes k 0 c.args.volumes.now c.args.cells.now es) (to_z-of_z w64 c.args.num c.ranges.num)
    (volumes_none n c.args.volumes.now c.args.cells.now c.loop-place.place _ c.loop-place.rest.now c.split_at.result.0.now c.split_at.result.1.now c.loop-place.out.items
    (front_at c.args.volumes.now c.loop-place.place _ c.loop-place-test.true)
    (parts_at c.loop-place.place c.count_of.result c.loop-place.rest.now c.split_at.result.0.now c.split_at.result.1.now c.split_at.ensures.front c.split_at.ensures.back c.count_of.ensures.these c.count_of.ensures.others)
    (rw c.in-None.is at c.in_ok-volume.ensures) c.loop-place.invariant)

pub returns-then-is_empty : goal.returns-then-is_empty
returns-then-is_empty c =
    let n : ℤ = to_z w64 (of_z w64 c.args.num) in
    subst (λ (k : ℤ). SpellsVolumes k 0 c.args.volumes.now c.args.cells.now c.loop-place.out.items) (to_z-of_z w64 c.args.num c.ranges.num)
    (volumes_all n c.args.volumes.now c.args.cells.now c.loop-place.place c.loop-place.rest.now c.loop-place.out.items c.loop-place-test.false (is_none _ _ c.is_empty.ensures c.if-is_empty.true) c.loop-place.invariant)

pub returns-else-is_empty : goal.returns-else-is_empty
returns-else-is_empty c =
    let n : ℤ = to_z w64 (of_z w64 c.args.num) in
    subst (λ (k : ℤ). (es : List Extent) → ¬ SpellsVolumes k 0 c.args.volumes.now c.args.cells.now es) (to_z-of_z w64 c.args.num c.ranges.num)
    (volumes_over n c.args.volumes.now c.args.cells.now c.loop-place.place c.loop-place.rest.now c.loop-place.out.items c.loop-place-test.false (is_some _ _ c.is_empty.ensures c.if-is_empty.false) c.loop-place.invariant)
