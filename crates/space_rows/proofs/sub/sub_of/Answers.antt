use Rattle.std.proofs.Common.{◌≡◌, sym, subst, ℤ, to_z, of_z, w64, rules}
use Rattle.entity_core.specs.declared.subscription.Sub.{Sub}
use Rattle.space_rows.specs.declared.rows.VolumeRow.{VolumeRow}
use Rattle.space_rows.specs.Volumes.{HasBounds}
use Rattle.space_rows.specs.Subs.{IsSubCellRow, SpellsSub}
use Rattle.space_rows.specs.Cells.{SpellsCells}
use Rattle.space_rows.specs.SubHead.{sub_head_part}
use Rattle.space_rows.proofs.SubRows.{whole_sub, no_sub_bounds, sub_head_in}
use Rattle.space_rows.proofs.sub.sub_of.Goals as goal

pub returns-in_default : goal.returns-in_default
returns-in_default c = λ s p. (rw c.in_default.is at c.in_ok-head.ensures) (sub_head_part s) (sub_head_in c.args.row.now c.args.cells.now s p)

pub returns-in-Some-bounded : goal.returns-in-Some-bounded
returns-in-Some-bounded c =
    let r = c.args.row.now in
    let cells = c.args.cells.now in
    let cs = c.in-Some-2.list.items in
    let v = c.in-Some-bounded.volume in
    let m : to_z w64 (of_z w64 r.num) ≡ r.num = search rules in
    let own = subst (λ (z : ℤ). SpellsCells (IsSubCellRow z) 0 cells cs) m (rw c.in-Some-2.is at c.in_ok-list.ensures) in
    let bounds = subst (λ (b : VolumeRow). HasBounds b cs v) c.bounds_of.ensures c.in-Some-bounded.ensures in
    subst (SpellsSub r cells) (sym {A = Sub} c.with_volume.ensures) (whole_sub r cells c.in-Some.head cs v (rw c.in-Some.is at c.in_ok-head.ensures) own bounds)

pub returns-in-None : goal.returns-in-None
returns-in-None c =
    let r = c.args.row.now in
    let cells = c.args.cells.now in
    let cs = c.in-Some-2.list.items in
    let m : to_z w64 (of_z w64 r.num) ≡ r.num = search rules in
    let own = subst (λ (z : ℤ). SpellsCells (IsSubCellRow z) 0 cells cs) m (rw c.in-Some-2.is at c.in_ok-list.ensures) in
    no_sub_bounds r cells cs own (λ v h. c.in-None.ensures v (subst (λ (b : VolumeRow). HasBounds b cs v) (sym {A = VolumeRow} c.bounds_of.ensures) h))
