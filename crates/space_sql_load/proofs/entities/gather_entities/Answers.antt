use Rattle.std.proofs.Common.{◌≡◌, ◌∙◌, ◌+◌, sym, ap, subst, ℕ, ℤ, Option, drop, to_z, of_z, w64, rules}
use Rattle.entity_core.specs.declared.entity.Entity.{Entity}
use Rattle.entity_core.specs.Airspace.{key_cmp}
use Rattle.entity_maps.specs.Entities.{entity_map, pair_of}
use Rattle.entity_maps.proofs.Maps.{map_of_none}
use Rattle.space_rows.specs.declared.rows.VolumeRow.{VolumeRow}
use Rattle.space_rows.specs.declared.rows.CellRow.{CellRow}
use Rattle.space_rows.proofs.ReadSoFar.{front}
use Rattle.space_sql_select.specs.declared.sub_rows.NamingRow.{NamingRow}
use Rattle.space_sql_load.specs.Gathering.{IsNext, NamesBy, parts_of}
use Rattle.space_sql_load.proofs.Fronts.{front_of}
use Rattle.space_sql_load.proofs.Gatherings.{GathersOn, Fronts, gathers_start, gathers_more, gathers_none, gathers_unnamed}
use Rattle.space_sql_load.proofs.entities.gather_entities.Goals as goal

pub loop-row-init : goal.loop-row-init
loop-row-init c = gathers_start c.args.serial c.args.numbers.now c.args.rows.now (parts_of c.args.volumes.now c.args.cells.now c.args.namings.now) (entity_map c.new-out.result) (ap entity_map c.new-out.ensures ∙ map_of_none key_cmp pair_of)

pub loop-row-preserved : goal.loop-row-preserved
loop-row-preserved c =
    let r = c.row-item.result in
    let n : to_z w64 (of_z w64 r.num) ≡ r.num = search rules in
    let m = entity_map c.loop-row.out in
    let parts = parts_of c.args.volumes.now c.args.cells.now c.args.namings.now in
    let left = parts_of c.loop-row.volumes_left.now c.loop-row.cells_left.now c.loop-row.namings_left.now in
    let own = parts_of c.split_at.result.0.now c.split_at-in-loop-row.result.0.now c.split_at-in-loop-row-2.result.0.now in
    let more = parts_of c.split_at.result.1.now c.split_at-in-loop-row.result.1.now c.split_at-in-loop-row-2.result.1.now in
    let f0 = front_of (λ (v : VolumeRow). v.entity ≡ to_z w64 (of_z w64 r.num)) c.volume_count.result c.loop-row.volumes_left.now c.split_at.result.0.now c.split_at.result.1.now c.split_at.ensures.front c.split_at.ensures.back c.volume_count.ensures.these c.volume_count.ensures.others in
    let f1 = front_of (λ (v : CellRow). v.entity ≡ to_z w64 (of_z w64 r.num)) c.entity_cell_count.result c.loop-row.cells_left.now c.split_at-in-loop-row.result.0.now c.split_at-in-loop-row.result.1.now c.split_at-in-loop-row.ensures.front c.split_at-in-loop-row.ensures.back c.entity_cell_count.ensures.these c.entity_cell_count.ensures.others in
    let f2 = front_of (λ (v : NamingRow). v.entity ≡ to_z w64 (of_z w64 r.num)) c.naming_count.result c.loop-row.namings_left.now c.split_at-in-loop-row-2.result.0.now c.split_at-in-loop-row-2.result.1.now c.split_at-in-loop-row-2.ensures.front c.split_at-in-loop-row-2.ensures.back c.naming_count.ensures.these c.naming_count.ensures.others in
    let f : Fronts r.num left own more = subst (λ (z : ℤ). Fronts z left own more) n (record { volumes = f0; cells = f1; namings = f2 }) in
    let names : NamesBy c.args.numbers.now r.num own.namings c.in-Some.named = rw n at (rw c.in-Some.is at c.named_by.ensures) in
    let t : IsNext c.args.serial (to_z w64 c.loop-row.last-bits) r own.volumes own.cells c.in-Some.named m c.in-Some-2.entity = rw c.in-Some-2.is at c.in_ok-entity.ensures in
    subst (λ (z : ℤ). GathersOn c.args.serial c.args.numbers.now c.args.rows.now parts z (drop (c.loop-row.row-index + 1) c.args.rows.now) more (entity_map c.put.new.self)) (sym n)
    (gathers_more c.args.serial c.args.numbers.now c.args.rows.now parts (to_z w64 c.loop-row.last-bits) r (drop c.loop-row.row-index c.args.rows.now) (drop (c.loop-row.row-index + 1) c.args.rows.now)
    left own more m (front c.args.rows.now c.loop-row.row-index r c.loop-row-test.true c.row-item.is) f c.loop-row.invariant
    c.in-Some.named c.in-Some-2.entity (entity_map c.put.new.self) names t c.in_ok-put-in-Some-2.ensures.ok)

pub returns-in_default : goal.returns-in_default
returns-in_default c =
    let r = c.row-item.result in
    let n : to_z w64 (of_z w64 r.num) ≡ r.num = search rules in
    let m = entity_map c.loop-row.out in
    let parts = parts_of c.args.volumes.now c.args.cells.now c.args.namings.now in
    let left = parts_of c.loop-row.volumes_left.now c.loop-row.cells_left.now c.loop-row.namings_left.now in
    let own = parts_of c.split_at.result.0.now c.split_at-in-loop-row.result.0.now c.split_at-in-loop-row-2.result.0.now in
    let more = parts_of c.split_at.result.1.now c.split_at-in-loop-row.result.1.now c.split_at-in-loop-row-2.result.1.now in
    let f0 = front_of (λ (v : VolumeRow). v.entity ≡ to_z w64 (of_z w64 r.num)) c.volume_count.result c.loop-row.volumes_left.now c.split_at.result.0.now c.split_at.result.1.now c.split_at.ensures.front c.split_at.ensures.back c.volume_count.ensures.these c.volume_count.ensures.others in
    let f1 = front_of (λ (v : CellRow). v.entity ≡ to_z w64 (of_z w64 r.num)) c.entity_cell_count.result c.loop-row.cells_left.now c.split_at-in-loop-row.result.0.now c.split_at-in-loop-row.result.1.now c.split_at-in-loop-row.ensures.front c.split_at-in-loop-row.ensures.back c.entity_cell_count.ensures.these c.entity_cell_count.ensures.others in
    let f2 = front_of (λ (v : NamingRow). v.entity ≡ to_z w64 (of_z w64 r.num)) c.naming_count.result c.loop-row.namings_left.now c.split_at-in-loop-row-2.result.0.now c.split_at-in-loop-row-2.result.1.now c.split_at-in-loop-row-2.ensures.front c.split_at-in-loop-row-2.ensures.back c.naming_count.ensures.these c.naming_count.ensures.others in
    let f : Fronts r.num left own more = subst (λ (z : ℤ). Fronts z left own more) n (record { volumes = f0; cells = f1; namings = f2 }) in
    let names : (named : Option ℕ) → ¬ NamesBy c.args.numbers.now r.num own.namings named = rw n at (rw c.in_default.is at c.named_by.ensures) in
    gathers_unnamed c.args.serial c.args.numbers.now c.args.rows.now parts (to_z w64 c.loop-row.last-bits) r (drop c.loop-row.row-index c.args.rows.now) (drop (c.loop-row.row-index + 1) c.args.rows.now)
    left own more m (front c.args.rows.now c.loop-row.row-index r c.loop-row-test.true c.row-item.is) f c.loop-row.invariant
    names

pub returns-in-None : goal.returns-in-None
returns-in-None c =
    let r = c.row-item.result in
    let n : to_z w64 (of_z w64 r.num) ≡ r.num = search rules in
    let m = entity_map c.loop-row.out in
    let parts = parts_of c.args.volumes.now c.args.cells.now c.args.namings.now in
    let left = parts_of c.loop-row.volumes_left.now c.loop-row.cells_left.now c.loop-row.namings_left.now in
    let own = parts_of c.split_at.result.0.now c.split_at-in-loop-row.result.0.now c.split_at-in-loop-row-2.result.0.now in
    let more = parts_of c.split_at.result.1.now c.split_at-in-loop-row.result.1.now c.split_at-in-loop-row-2.result.1.now in
    let f0 = front_of (λ (v : VolumeRow). v.entity ≡ to_z w64 (of_z w64 r.num)) c.volume_count.result c.loop-row.volumes_left.now c.split_at.result.0.now c.split_at.result.1.now c.split_at.ensures.front c.split_at.ensures.back c.volume_count.ensures.these c.volume_count.ensures.others in
    let f1 = front_of (λ (v : CellRow). v.entity ≡ to_z w64 (of_z w64 r.num)) c.entity_cell_count.result c.loop-row.cells_left.now c.split_at-in-loop-row.result.0.now c.split_at-in-loop-row.result.1.now c.split_at-in-loop-row.ensures.front c.split_at-in-loop-row.ensures.back c.entity_cell_count.ensures.these c.entity_cell_count.ensures.others in
    let f2 = front_of (λ (v : NamingRow). v.entity ≡ to_z w64 (of_z w64 r.num)) c.naming_count.result c.loop-row.namings_left.now c.split_at-in-loop-row-2.result.0.now c.split_at-in-loop-row-2.result.1.now c.split_at-in-loop-row-2.ensures.front c.split_at-in-loop-row-2.ensures.back c.naming_count.ensures.these c.naming_count.ensures.others in
    let f : Fronts r.num left own more = subst (λ (z : ℤ). Fronts z left own more) n (record { volumes = f0; cells = f1; namings = f2 }) in
    let names : NamesBy c.args.numbers.now r.num own.namings c.in-Some.named = rw n at (rw c.in-Some.is at c.named_by.ensures) in
    let t : (e : Entity) → ¬ IsNext c.args.serial (to_z w64 c.loop-row.last-bits) r own.volumes own.cells c.in-Some.named m e = rw c.in-None.is at c.in_ok-entity.ensures in
    gathers_none c.args.serial c.args.numbers.now c.args.rows.now parts (to_z w64 c.loop-row.last-bits) r (drop c.loop-row.row-index c.args.rows.now) (drop (c.loop-row.row-index + 1) c.args.rows.now)
    left own more m (front c.args.rows.now c.loop-row.row-index r c.loop-row-test.true c.row-item.is) f c.loop-row.invariant
    c.in-Some.named names t
