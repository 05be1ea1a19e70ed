use Rattle.std.proofs.Common.{◌≡◌, sym, ap, subst, ◌∙◌, ℕ, List, Option}
use Rattle.std.specs.Prelude.{Contains, position}
use Rattle.std.specs.List.{flat_map}
use Rattle.pool_instance.specs.Parts.{is_number, number_of, sent_by}
use Rattle.pool_instance.proofs.Places.{there_iff}
use Rattle.pool_instance.proofs.instance.Instance.is_in_flight.Goals as goal

pub returns-in-Some : goal.returns-in-Some
returns-in-Some g c =
    let id = c.args.id in
    let found : position (is_number id) c.in-Some.sent.items ≡ c.place_of_sent.result = ap (λ (v : List (Option ℕ)). position (is_number id) v) (sym c.as_slice.ensures.value) ∙ sym c.place_of_sent.ensures in
    let e = there_iff c.in-Some.sent.items id c.place_of_sent.result found in (
      λ h. subst (λ f. Contains (flat_map number_of (sent_by f)) id) (sym c.in-Some.is) (e.0 (sym c.is_some.ensures ∙ h)),
      λ h. c.is_some.ensures ∙ e.1 (subst (λ f. Contains (flat_map number_of (sent_by f)) id) c.in-Some.is h),
    )
