use Rattle.std.proofs.Common.{Option, Some, [], sym, ap, ◌∙◌}
use Rattle.std.specs.Prelude.{unwrap_or}
use Rattle.std.proofs.lemmas.Cmp.{nat_list_cmp_total}
use Rattle.entity_core.specs.Airspace.{VersionedAvailability, text_cmp}
use Rattle.entity_core.specs.declared.availability.Availability.TheVariants.{Unknown}
use Rattle.entity_maps.specs.Availabilities.{pair_of}
use Rattle.entity_maps.specs.declared.availabilities.AvailabilityEntry.{AvailabilityEntry}
use Rattle.entity_maps.proofs.Positions.{found_hit, found_gap, read_hit}
use Rattle.entity_maps.proofs.availabilities.present.Goals as goal

pub returns-in-Ok : goal.returns-in-Ok
returns-in-Ok c =
    let hit = c.in-Ok.ensures.hit c.requires in
    ap (λ (e : AvailabilityEntry). e.availability) (sym c.index-items-i.is)
    ∙ ap (λ (o : Option VersionedAvailability). (unwrap_or o (Unknown, [])).0)
    (ap (λ (e : AvailabilityEntry). Some (pair_of e).1) (read_hit text_cmp pair_of c.args.items.now c.args.uss.now c.in-Ok.i hit c.index-items-i.result c.index-items-i.is)
    ∙ found_hit text_cmp pair_of nat_list_cmp_total c.args.items.now c.args.uss.now c.in-Ok.i hit)

pub returns-in-Err : goal.returns-in-Err
returns-in-Err c =
    ap (λ (o : Option VersionedAvailability). (unwrap_or o (Unknown, [])).0)
    (found_gap text_cmp pair_of nat_list_cmp_total c.args.items.now c.args.uss.now c.in-Err.field-0 (c.in-Err.ensures.gap c.requires) c.requires)
