-- Lemmas: entities that were met, their references, and which of them a put needs to know.
use Rattle.std.specs.Prelude.{◌≡◌, ℕ, not, true, false, List, [], ◌∷◌, map, filter, cond, refl, Some, option_map}
use Rattle.std.specs.List.{slice_get}
use Rattle.std.proofs.Common.{ap, sym, ◌∙◌}
use Rattle.std.proofs.lemmas.Option.{same_Some, slice_get-map}
use Rattle.entity_core.specs.Airspace.{Airspace}
use Rattle.entity_core.specs.declared.availability.Availability.{Availability}
use Rattle.entity_core.specs.declared.entity.Entity.{Entity}
use Rattle.policy_core.specs.declared.reference.Reference.{Reference}
use Rattle.policy_core.specs.Missing.{is_spared, spared, unspared}
use Rattle.policy_core.specs.View.{view_of, view_with}
use Rattle.space_core.specs.declared.met.Met.{Met}
use Rattle.space_core.specs.Met.{met_of}
use Rattle.service_step.specs.Needed.{manager_has}

-- The reference of a met entity as a USS sees it.
abbrev pub seen_by : List ℕ → Met → Reference
seen_by uss x = view_with uss x.entity x.availability

pub seen_there : (uss : List ℕ) (a : Airspace) (es : List Entity) → map (seen_by uss) (map (met_of a) es) ≡ map (view_of a uss) es
unfolding view_of
seen_there uss a [] = refl
seen_there uss a (e ∷ es) = ap (λ (rs : List Reference). view_of a uss e ∷ rs) (seen_there uss a es)

-- The met entities that are not spared.
abbrev pub owed_of : List Met → List Entity
owed_of xs = map (λ x. x.entity) (filter (λ x. not (spared x.entity x.availability)) xs)

pub owed_there : (a : Airspace) (es : List Entity) → owed_of (map (met_of a) es) ≡ unspared a es
owed_there a [] = refl
owed_there a (e ∷ es) =
    let rest = owed_there a es in
    elim (is_spared a e) as (λ b. map (λ x. x.entity) (cond (not b) (met_of a e ∷ filter (λ x. not (spared x.entity x.availability)) (map (met_of a) es)) (filter (λ x. not (spared x.entity x.availability)) (map (met_of a) es))) ≡ cond (not b) (e ∷ unspared a es) (unspared a es)) [
      | true ↦ rest
      | false ↦ ap (λ (ys : List Entity). e ∷ ys) rest
    ]

-- The availabilities of the managers of the met entities that are not spared.
abbrev pub present_of : List Met → List Availability
present_of xs = map (λ x. x.availability) (filter (λ x. not (spared x.entity x.availability)) xs)

pub present_there : (a : Airspace) (es : List Entity) → present_of (map (met_of a) es) ≡ map (manager_has a) (unspared a es)
present_there a [] = refl
present_there a (e ∷ es) =
    let rest = present_there a es in
    elim (is_spared a e) as (λ b. map (λ x. x.availability) (cond (not b) (met_of a e ∷ filter (λ x. not (spared x.entity x.availability)) (map (met_of a) es)) (filter (λ x. not (spared x.entity x.availability)) (map (met_of a) es))) ≡ map (manager_has a) (cond (not b) (e ∷ unspared a es) (unspared a es))) [
      | true ↦ rest
      | false ↦ ap (λ (ys : List Availability). manager_has a e ∷ ys) rest
    ]

-- The availability at an index is that of the manager of the entity at that index.
pub present_at : (a : Airspace) (es : List Entity) (vs : List Availability) (k : ℕ) (e : Entity) (v : Availability) → vs ≡ map (manager_has a) es → slice_get es k ≡ Some e → slice_get vs k ≡ Some v → v ≡ manager_has a e
present_at a es vs k e v are is at =
    same_Some v (manager_has a e) (sym at ∙ (ap (λ (xs : List Availability). slice_get xs k) are ∙ (slice_get-map (manager_has a) es k ∙ ap (option_map (manager_has a)) is)))
