use Rattle.std.proofs.Common.{Option, Ok, Result, [], refl, ap, subst, ◌∙◌}
use Rattle.std.specs.Prelude.{unwrap_or}
use Rattle.std.specs.FinMap.{find}
use Rattle.std.specs.declared.alloc.AllocError.{AllocError}
use Rattle.std.proofs.lemmas.Cmp.{nat_list_cmp_total}
use Rattle.entity_core.specs.Airspace.{VersionedAvailability, text_cmp}
use Rattle.entity_core.specs.declared.availability.Availability.TheVariants.{Unknown}
use Rattle.entity_maps.specs.Availabilities.{InOrder, pair_of}
use Rattle.entity_maps.specs.Sorted.{keyed}
use Rattle.entity_maps.proofs.Positions.{get_answer}
use Rattle.entity_maps.proofs.availabilities.Availabilities.present.Goals as goal

pub returns : goal.returns
returns c =
    let there : Result (Option VersionedAvailability) AllocError = Ok (find text_cmp c.args.uss.now (keyed pair_of c.deref.result.now)) in
    c.present.ensures
    ∙ ap (λ (o : Option VersionedAvailability). (unwrap_or o (Unknown, [])).0)
    (get_answer text_cmp pair_of nat_list_cmp_total there c.deref.result.now c.args.self.now c.args.uss.now (c.deref.ensures.value ∙ c.self.view_is) (subst InOrder c.self.view_is c.self.invariant) refl)
