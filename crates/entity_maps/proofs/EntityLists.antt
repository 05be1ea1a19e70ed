-- Results of searches in lists of entities and of subscriptions.
use Rattle.std.specs.Prelude.{◌≡◌, ℕ, List, map, filter, Option}
use Rattle.std.proofs.Common.{sym, ap, ◌∙◌}
use Rattle.std.proofs.lemmas.List.{map-id}
use Rattle.grid_core.specs.Extent.{Region}
use Rattle.std.specs.Ordering.{nat_cmp}
use Rattle.std.proofs.lemmas.Cmp.{nat_cmp_total}
use Rattle.entity_core.specs.declared.entity.Entity.{Entity}
use Rattle.entity_core.specs.declared.subscription.Sub.{Sub}
use Rattle.entity_core.specs.declared.nature.Kind.{Kind}
use Rattle.entity_core.specs.Airspace.{key_cmp, key_of}
use Rattle.entity_core.specs.Search.{has_kind, is_for_near, is_naming, is_own_near, is_sought, meeting_in, all_in, dependents_in, subscribers_in, subscriptions_in}
use Rattle.entity_maps.specs.Entities.{InOrder, entity_map, pair_of}
use Rattle.entity_maps.specs.Subscriptions as subs
use Rattle.entity_maps.proofs.Keys.{key_total}
use Rattle.entity_maps.proofs.Maps.{values_of_kept}

pub meeting_answer : (xs d es : List Entity) (kind : Kind) (areas : List Region) (except : Option ℕ) → d ≡ es → InOrder es
    → xs ≡ filter (λ e. is_sought kind areas except (pair_of e)) d → xs ≡ meeting_in (entity_map es) kind areas except
unfolding meeting_in
meeting_answer xs d es kind areas except e s h =
    h ∙ (ap (filter (λ x. is_sought kind areas except (pair_of x))) e
    ∙ sym (values_of_kept key_cmp pair_of key_total (is_sought kind areas except) es s ∙ map-id (filter (λ x. is_sought kind areas except (pair_of x)) es)))

pub all_answer : (xs d es : List Entity) (kind : Kind) → d ≡ es → InOrder es → xs ≡ filter (λ e. has_kind kind (key_of e)) d → xs ≡ all_in (entity_map es) kind
unfolding all_in
all_answer xs d es kind e s h =
    h ∙ (ap (filter (λ x. has_kind kind (key_of x))) e
    ∙ sym (values_of_kept key_cmp pair_of key_total (λ x. has_kind kind x.0) es s ∙ map-id (filter (λ x. has_kind kind (key_of x)) es)))

pub dependents_answer : (ids : List ℕ) (d es : List Entity) (id : ℕ) → d ≡ es → InOrder es → ids ≡ map (λ e. e.id) (filter (λ e. is_naming id (pair_of e)) d) → ids ≡ dependents_in (entity_map es) id
unfolding dependents_in
dependents_answer ids d es id e s h =
    h ∙ (ap (λ (xs : List Entity). map (λ x. x.id) (filter (λ x. is_naming id (pair_of x)) xs)) e
    ∙ ap (map (λ (x : Entity). x.id)) (sym (values_of_kept key_cmp pair_of key_total (is_naming id) es s ∙ map-id (filter (λ x. is_naming id (pair_of x)) es))))

-- ---- subscriptions

pub own_answer : (xs d ss : List Sub) (uss : List ℕ) (area : Region) → d ≡ ss → subs.InOrder ss → xs ≡ filter (λ s. is_own_near uss area (subs.pair_of s)) d → xs ≡ subscriptions_in (subs.subscription_map ss) uss area
unfolding subscriptions_in
own_answer xs d ss uss area e s h =
    h ∙ (ap (filter (λ x. is_own_near uss area (subs.pair_of x))) e
    ∙ sym (values_of_kept nat_cmp subs.pair_of nat_cmp_total (is_own_near uss area) ss s ∙ map-id (filter (λ x. is_own_near uss area (subs.pair_of x)) ss)))

pub wanted_answer : (xs d ss : List Sub) (kind : Kind) (areas : List Region) → d ≡ ss → subs.InOrder ss → xs ≡ filter (λ s. is_for_near kind areas (subs.pair_of s)) d → xs ≡ subscribers_in (subs.subscription_map ss) kind areas
unfolding subscribers_in
wanted_answer xs d ss kind areas e s h =
    h ∙ (ap (filter (λ x. is_for_near kind areas (subs.pair_of x))) e
    ∙ sym (values_of_kept nat_cmp subs.pair_of nat_cmp_total (is_for_near kind areas) ss s ∙ map-id (filter (λ x. is_for_near kind areas (subs.pair_of x)) ss)))
