use Rattle.std.proofs.Common.{◌∙◌, ap, map, sym, refl, Ok, Err}
use Rattle.std.specs.Prelude.{Result, IfOk}
use Rattle.policy_core.specs.View.{view_of}
use Rattle.policy_core.proofs.Places.{missing_is, inside_is}
use Rattle.service_step.specs.Needed.{manager_has}
use Rattle.service_step.proofs.needed.missing_from.Goals as goal

pub references_at-requires-clause-places : goal.references_at-requires-clause-places
references_at-requires-clause-places c =
    inside_is c.args.key.now c.args.needed.now.entities.items c.deref.result.now c.deref-2.result.now c.in_ok-places.places.items c.deref-4.result.now c.deref.ensures.value c.deref-2.ensures.value c.deref-4.ensures.value c.in_ok-places.ensures

pub returns : goal.returns
returns c =
    seen c.references_at.result _ _
    (λ references found a present. found a (c.deref-3.ensures.value ∙ (present ∙ ap (map (manager_has a)) (sym c.deref-2.ensures.value)))
    ∙ missing_is (view_of a c.args.uss.now) c.args.key.now c.args.needed.now.entities.items c.deref.result.now c.deref-2.result.now c.args.needed.now.entities.items c.in_ok-places.places.items c.deref-4.result.now c.deref.ensures.value c.deref-2.ensures.value c.deref-4.ensures.value c.in_ok-places.ensures refl)
    c.references_at.ensures
  where
    seen : {X E : Type 0} (r : Result X E) (P Q : X → Type 0) → ((x : X) → P x → Q x) → IfOk r P → IfOk r Q
    seen (Ok x) P Q f p = f x p
    seen (Err e) P Q f p = tt
