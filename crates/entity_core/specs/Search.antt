-- Searches of entities and subscriptions in an airspace.
use Rattle.std.specs.Prelude.{ℕ, ◌&&◌, not, nat_eq, Bool, true, false, List, map, filter, Option, Some, None}
use Rattle.std.specs.Ordering.{nat_cmp}
use Rattle.std.specs.FinMap.{entries}
use Rattle.std.specs.List.Sorted.{IsStrictlySortedBy}
use Rattle.grid_core.specs.Extent.{Region, any_meet, meets, region_of}
use Rattle.grid_core.specs.Volumes.{meets_some}
use Rattle.entity_core.specs.declared.nature.Kind.{Kind}
use Rattle.entity_core.specs.declared.entity.Entity.{Entity}
use Rattle.entity_core.specs.declared.subscription.Sub.{Sub}
use Rattle.entity_core.specs.Airspace.{Airspace, Entities, EntityKey, Subscriptions}
use Rattle.entity_core.specs.Entity.{kind_index, subscription_of}
use Rattle.entity_core.specs.IdTexts.{same_text}
use Rattle.entity_core.specs.Subscription.{wants}

abbrev pub has_kind : Kind → EntityKey → Bool
has_kind kind k = nat_eq (kind_index k.0) (kind_index kind)

abbrev pub is_not : Option ℕ → EntityKey → Bool
is_not None k = true
is_not (Some id) k = not (nat_eq k.1 id)

-- True if an entity has the kind, does not have the excluded id, and some volume of it meets some
-- area.
abbrev pub is_sought : Kind → List Region → Option ℕ → EntityKey × Entity → Bool
is_sought kind areas except e =
    has_kind kind e.0 && (is_not except e.0 && any_meet e.1.volumes areas)

-- All such entities, by ascending id.
unfoldable pub meeting_in : Entities → Kind → List Region → Option ℕ → List Entity
meeting_in m kind areas except = map (λ e. e.1) (filter (is_sought kind areas except) (entries m))

-- All entities of a kind, by ascending id.
unfoldable pub all_in : Entities → Kind → List Entity
all_in m kind = map (λ e. e.1) (filter (λ e. has_kind kind e.0) (entries m))

-- ---- subscriptions

abbrev pub is_id : ℕ → Option ℕ → Bool
is_id id None = false
is_id id (Some named) = nat_eq named id

-- True if an intent references the subscription.
abbrev pub is_naming : ℕ → EntityKey × Entity → Bool
is_naming id e = is_id id (subscription_of e.1.nature)

-- The ids of the intents that reference a subscription, ascending.
unfoldable pub dependents_in : Entities → ℕ → List ℕ
dependents_in m id = map (λ e. e.id) (map (λ e. e.1) (filter (is_naming id) (entries m)))

-- True if a subscription belongs to the USS and its volume meets the area.
abbrev pub is_own_near : List ℕ → Region → ℕ × Sub → Bool
is_own_near uss area s = same_text s.1.manager uss && meets (region_of s.1.volume) area

-- All such subscriptions, by ascending id.
unfoldable pub subscriptions_in : Subscriptions → List ℕ → Region → List Sub
subscriptions_in m uss area = map (λ s. s.1) (filter (is_own_near uss area) (entries m))

-- True if a subscription is for the kind and its volume meets some area. Its manager does not
-- matter.
abbrev pub is_for_near : Kind → List Region → ℕ × Sub → Bool
is_for_near kind areas s = wants s.1.interest kind && meets_some s.1.volume areas

-- All such subscriptions, by ascending id.
unfoldable pub subscribers_in : Subscriptions → Kind → List Region → List Sub
subscribers_in m kind areas = map (λ s. s.1) (filter (is_for_near kind areas) (entries m))

-- ---- order of the results

-- Holds if every search of the airspace returns its results by ascending id, and so each only once.
pub record FoundInOrder (a : Airspace) : Type 0 where
  pub meeting : (kind : Kind) (areas : List Region) (except : Option ℕ)
      → IsStrictlySortedBy nat_cmp (map (λ e. e.id) (meeting_in a.entities kind areas except))
  pub all : (kind : Kind) → IsStrictlySortedBy nat_cmp (map (λ e. e.id) (all_in a.entities kind))
  pub dependents : (id : ℕ) → IsStrictlySortedBy nat_cmp (dependents_in a.entities id)
  pub subscriptions : (uss : List ℕ) (area : Region)
      → IsStrictlySortedBy nat_cmp (map (λ s. s.id) (subscriptions_in a.subscriptions uss area))
  pub subscribers : (kind : Kind) (areas : List Region)
      → IsStrictlySortedBy nat_cmp (map (λ s. s.id) (subscribers_in a.subscriptions kind areas))
