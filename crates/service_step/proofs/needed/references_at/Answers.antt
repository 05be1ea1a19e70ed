use Rattle.std.proofs.lemmas.Option.{slice_get-get_or, slice_get_read}
use Rattle.std.proofs.Common.{◌++◌, ◌∷◌, [], refl, take, map, ap, sym, ◌∙◌, List}
use Rattle.std.specs.List.{filter_map, slice_get}
use Rattle.policy_core.specs.View.{view_of}
use Rattle.policy_core.specs.declared.reference.Reference.{Reference}
use Rattle.policy_core.proofs.Places.{pick_more}
use Rattle.service_step.proofs.Visible.{present_at}
use Rattle.service_step.proofs.needed.references_at.Goals as goal

pub loop-place-preserved : goal.loop-place-preserved
loop-place-preserved c = λ a present.
    let there = slice_get_read c.args.entities.now _ _ c.index-entities-place.result refl (c.requires.places c.loop-place.place-index 0 c.loop-place-test.true) c.index-entities-place.is in
    let seen = c.in_ok-view.ensures.in_airspace a (present_at a c.args.entities.now c.args.availabilities.now _ c.index-entities-place.result _ present there (slice_get-get_or c.args.availabilities.now _ _ (rw c.requires.paired (c.requires.places c.loop-place.place-index 0 c.loop-place-test.true)))) in
    c.in_ok-push.ensures.items ∙ (ap (λ (rs : List Reference). rs ++ c.in_ok-view.field-0 ∷ []) (c.loop-place.invariant a present)
    ∙ (ap (λ (r : Reference). map (view_of a c.args.uss.now) (filter_map (slice_get c.args.entities.now) (take c.loop-place.place-index c.args.places.now)) ++ r ∷ []) seen
    ∙ sym (pick_more (view_of a c.args.uss.now) c.args.entities.now c.args.places.now c.loop-place.place-index 0 c.index-entities-place.result c.loop-place-test.true there)))
