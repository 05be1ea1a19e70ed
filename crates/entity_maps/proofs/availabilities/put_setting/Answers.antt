use Rattle.std.proofs.Common.{List, subst, sym, ap, ◌∙◌}
use Rattle.std.proofs.lemmas.Cmp.{nat_list_cmp_total}
use Rattle.std.proofs.lemmas.Map.Lookups.{exact_bytes}
use Rattle.entity_core.specs.Airspace.{text_cmp}
use Rattle.entity_maps.specs.Sorted.{keyed, Hit, Gap}
use Rattle.entity_maps.specs.Availabilities.{InOrder, pair_of}
use Rattle.entity_maps.specs.declared.availabilities.AvailabilityEntry.{AvailabilityEntry}
use Rattle.entity_maps.proofs.Positions.{not_some, put_hit, put_gap}
use Rattle.entity_maps.proofs.availabilities.put_setting.Goals as goal

pub returns-in-Ok-clause-ok : goal.returns-in-Ok-clause-ok
returns-in-Ok-clause-ok c =
    let hit = subst (λ (es : List AvailabilityEntry). Hit text_cmp pair_of es c.args.setting.uss c.in-Ok.i) c.deref.ensures.value (c.in-Ok.ensures.hit (subst InOrder (sym c.deref.ensures.value) c.requires)) in
    put_hit text_cmp pair_of nat_list_cmp_total exact_bytes c.args.items.now.items c.args.setting c.in-Ok.i hit

pub returns-in_ok-insert-in-Err-clause-ok : goal.returns-in_ok-insert-in-Err-clause-ok
returns-in_ok-insert-in-Err-clause-ok c =
    let gap = subst (λ (es : List AvailabilityEntry). Gap text_cmp pair_of es c.args.setting.uss c.in-Err.i) c.deref.ensures.value (c.in-Err.ensures.gap (subst InOrder (sym c.deref.ensures.value) c.requires)) in
    ap (keyed pair_of) c.in_ok-insert-in-Err.ensures.items ∙ put_gap text_cmp pair_of nat_list_cmp_total c.args.items.now.items c.args.setting c.in-Err.i gap

pub returns-in_err-insert-in-Err-clause-over : goal.returns-in_err-insert-in-Err-clause-over
returns-in_err-insert-in-Err-clause-over c = λ some.
    let gap = subst (λ (es : List AvailabilityEntry). Gap text_cmp pair_of es c.args.setting.uss c.in-Err.i) c.deref.ensures.value (c.in-Err.ensures.gap (subst InOrder (sym c.deref.ensures.value) c.requires)) in
    absurd (not_some text_cmp pair_of nat_list_cmp_total c.args.items.now.items c.args.setting.uss c.in-Err.i gap c.requires some)
