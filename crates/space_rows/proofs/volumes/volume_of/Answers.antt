use Rattle.std.proofs.Common.{subst, ℤ, to_z, of_z, w64}
use Rattle.std.proofs.lemmas.Int.{to_z-of_z}
use Rattle.grid_core.specs.Extent.{Extent}
use Rattle.space_rows.specs.Finds.{Finds}
use Rattle.space_rows.specs.Volumes.{SpellsVolume}
use Rattle.space_rows.proofs.VolumeRows.{found_bounds, no_cells}
use Rattle.space_rows.proofs.volumes.volume_of.Goals as goal

pub returns-in-Some : goal.returns-in-Some
returns-in-Some c =
    let n : ℤ = to_z w64 (of_z w64 c.args.num) in
    subst (λ (k : ℤ). Finds (SpellsVolume k c.args.place c.args.row.now c.args.cells.now) c.bounded.result) (to_z-of_z w64 c.args.num c.ranges.num)
    (found_bounds n c.args.place c.args.row.now c.args.cells.now c.in-Some.list.items c.bounded.result (c.is_volume_placed.ensures.0 c.if-not-is_volume_placed.false) (rw c.in-Some.is at c.in_ok-list.ensures) c.bounded.ensures)

pub returns-in-None : goal.returns-in-None
returns-in-None c =
    let n : ℤ = to_z w64 (of_z w64 c.args.num) in
    subst (λ (k : ℤ). (e : Extent) → ¬ SpellsVolume k c.args.place c.args.row.now c.args.cells.now e) (to_z-of_z w64 c.args.num c.ranges.num)
    (no_cells n c.args.place c.args.row.now c.args.cells.now (rw c.in-None.is at c.in_ok-list.ensures))
