use Rattle.std.proofs.Common.{◌+◌, ◌++◌, [], ◌∷◌, sym, subst, List, ℤ, to_z, of_z, w64, arith}
use Rattle.std.proofs.lemmas.Int.{to_z-of_z}
use Rattle.space_rows.specs.declared.rows.VolumeRow.{VolumeRow}
use Rattle.space_rows.specs.declared.rows.CellRow.{CellRow}
use Rattle.space_rows.specs.Cells.{IsRowInVolume, SpellsCells}
use Rattle.space_rows.specs.Volumes.{SpellsVolumes}
use Rattle.space_rows.proofs.ReadSoFar.{front}
use Rattle.space_rows.proofs.VolumeRows.{VolumesWritten, written_more, written_all}
use Rattle.space_rows.proofs.volumes.volume_rows.Goals as goal

pub loop-place-preserved : goal.loop-place-preserved
loop-place-preserved c =
    let n : ℤ = to_z w64 (of_z w64 c.args.num) in
    let v = c.index-volumes-place.result in
    let own = c.in_ok-cell_rows.field-0.items in
    let spelt = subst (SpellsCells (IsRowInVolume n c.loop-place.place) 0 own) c.cells.ensures c.in_ok-cell_rows.ensures in
    let more = written_more n c.args.volumes.now c.loop-place.place c.loop-place.rows.items c.loop-place.cells.items c.volume_row.result own v
    (front c.args.volumes.now c.loop-place.place v (omega arith) c.index-volumes-place.is) c.volume_row.ensures.row c.volume_row.ensures.limits spelt c.loop-place.invariant in
    subst (λ (l : List VolumeRow). VolumesWritten n c.args.volumes.now (c.loop-place.place + 1) l c.append.new.self.items) (sym {A = List VolumeRow} c.in_ok-push.ensures.items)
    (subst (VolumesWritten n c.args.volumes.now (c.loop-place.place + 1) (c.loop-place.rows.items ++ c.volume_row.result ∷ [])) (sym {A = List CellRow} c.in_ok-append.ensures.items) more)

pub returns : goal.returns
returns c =
    let n : ℤ = to_z w64 (of_z w64 c.args.num) in
    subst (λ (k : ℤ). SpellsVolumes k 0 c.loop-place.rows.items c.loop-place.cells.items c.args.volumes.now) (to_z-of_z w64 c.args.num c.ranges.num)
    (written_all n c.args.volumes.now c.loop-place.place c.loop-place.rows.items c.loop-place.cells.items (omega arith) c.loop-place.invariant)
