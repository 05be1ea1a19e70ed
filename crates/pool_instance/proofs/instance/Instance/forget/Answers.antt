use Rattle.std.proofs.Common.{◌≡◌, ◌∙◌, ap, sym, subst, refl, Some, None, Option, ℕ, List, ◌∷◌, ◌++◌, set}
use Rattle.std.specs.Prelude.{position}
use Rattle.std.specs.Vec.{with_item}
use Rattle.std.proofs.lemmas.List.{set_at}
use Rattle.pool_instance.specs.Effects.{ForgetsIn}
use Rattle.pool_instance.specs.Parts.{is_number}
use Rattle.pool_instance.proofs.Ends.{no_slot}
use Rattle.pool_instance.proofs.Places.{is_the_number, position_found, position_none, position_within}
use Rattle.pool_instance.proofs.instance.Instance.forget.Goals as goal

pub returns-in_default-place_of_sent : goal.returns-in_default-place_of_sent
returns-in_default-place_of_sent g c =
    let none : position (is_number c.args.id) c.in-Some.sent.items ≡ None =
    ap (λ (v : List (Option ℕ)). position (is_number c.args.id) v) (sym c.as_slice.ensures.value) ∙ sym c.place_of_sent.ensures ∙ c.in_default-place_of_sent.is in (
      ap (λ f. record c.args.self.now { in_flight = f }) (sym c.in-Some.is),
      λ h. no_slot c.in-Some.sent.items c.args.id (position_none (is_number c.args.id) c.in-Some.sent.items none) (rw c.in-Some.is at h),
    )

pub returns : goal.returns
returns g c =
    let id = c.args.id in
    let slots = c.in-Some.sent.items in
    let i = c.in-Some-place_of_sent.index in
    let found : position (is_number id) slots ≡ Some i =
    ap (λ (v : List (Option ℕ)). position (is_number id) v) (sym c.as_slice.ensures.value) ∙ sym c.place_of_sent.ensures ∙ c.in-Some-place_of_sent.is in
    let f = position_found (is_number id) slots i found (position_within (is_number id) slots i found) in
    let was : slots ≡ f.split.front ++ Some id ∷ f.split.back = f.split.split ∙ ap (λ (v : Option ℕ). f.split.front ++ v ∷ f.split.back) (is_the_number id f.one f.passes) in
    let is : set slots i None ≡ f.split.front ++ None ∷ f.split.back = ap (λ (v : List (Option ℕ)). set v i None) was ∙ set_at f.split.front (Some id) f.split.back None i f.split.at in
    (subst (λ v. ForgetsIn id v (Some (with_item c.in-Some.sent i None))) (sym c.in-Some.is) (f.split.front, (f.split.back, was, is)), refl)
