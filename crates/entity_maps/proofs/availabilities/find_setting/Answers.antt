use Rattle.std.proofs.Common.{Some, ap, ◌∙◌}
use Rattle.std.proofs.lemmas.Cmp.{nat_list_cmp_total}
use Rattle.entity_core.specs.Airspace.{text_cmp}
use Rattle.entity_maps.specs.Availabilities.{pair_of}
use Rattle.entity_maps.specs.declared.availabilities.AvailabilityEntry.{AvailabilityEntry}
use Rattle.entity_maps.proofs.Positions.{found_hit, found_gap, not_none, read_hit}
use Rattle.entity_maps.proofs.availabilities.find_setting.Goals as goal

pub returns-in_ok-stated-in-Ok-clause-found : goal.returns-in_ok-stated-in-Ok-clause-found
returns-in_ok-stated-in-Ok-clause-found c =
    let hit = c.in-Ok.ensures.hit c.requires in
    ap Some (c.in_ok-stated-in-Ok.ensures ∙ ap (λ (e : AvailabilityEntry). (pair_of e).1) (read_hit text_cmp pair_of c.args.items.now c.args.uss.now c.in-Ok.i hit c.index-items-i.result c.index-items-i.is))
    ∙ found_hit text_cmp pair_of nat_list_cmp_total c.args.items.now c.args.uss.now c.in-Ok.i hit

pub returns-in-Err-clause-found : goal.returns-in-Err-clause-found
returns-in-Err-clause-found c = found_gap text_cmp pair_of nat_list_cmp_total c.args.items.now c.args.uss.now c.in-Err.field-0 (c.in-Err.ensures.gap c.requires) c.requires

pub returns-in_err-stated-in-Ok-clause-none : goal.returns-in_err-stated-in-Ok-clause-none
returns-in_err-stated-in-Ok-clause-none c = λ none. absurd (not_none text_cmp pair_of nat_list_cmp_total c.args.items.now c.args.uss.now c.in-Ok.i (c.in-Ok.ensures.hit c.requires) none)
