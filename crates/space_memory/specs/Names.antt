-- An index of the subscriptions that intents reference.
use Rattle.std.specs.Prelude.{◌≡◌, ℕ, ◌<◌, ◌^◌, true, cond, List, map, Option, Some, None}
use Rattle.std.specs.BTreeSet.{BTreeSet, contains}
use Rattle.std.specs.FinMap.{get}
use Rattle.std.specs.List.{list_any}
use Rattle.std.specs.List.Sorted.{IsStrictlySortedBy}
use Rattle.std.specs.Ordering.{is_eq, nat_cmp, ordering_then}
use Rattle.std.specs.declared.cmp.Ordering.{Ordering}
use Rattle.entity_core.specs.Airspace.{Entities, EntityKey}
use Rattle.entity_core.specs.Entity.{subscription_of}
use Rattle.entity_core.specs.Search.{is_id}
use Rattle.entity_core.specs.declared.entity.Entity.{Entity}
use Rattle.entity_core.specs.declared.nature.Kind.TheVariants.{Intent}

-- The id of a subscription and the id of an intent that references it.
abbrev pub Naming : Type 0
Naming = ℕ × ℕ

abbrev pub naming_cmp : Naming → Naming → Ordering
naming_cmp a b = ordering_then (nat_cmp a.0 b.0) (nat_cmp a.1 b.1)

-- Holds if the index has the pair.
pub record HasPair (names : BTreeSet Naming) (id intent : ℕ) : Type 0 where
  pub small : intent < 2 ^ 128
  pub there : contains naming_cmp names (id, intent) ≡ true

-- Holds if the index has the pair of the entity, if it references a subscription.
abbrev pub IsEntered : BTreeSet Naming → Entity → Type 0
IsEntered names e = (id : ℕ) → subscription_of e.nature ≡ Some id → HasPair names id e.id

-- Holds if the index has the pair of each entity of a map. It can have other pairs, too.
abbrev pub IsNameIndex : Entities → BTreeSet Naming → Type 0
IsNameIndex m names = (k : EntityKey) (x : Entity) → get m k ≡ Some x → IsEntered names x

-- Holds if the new set has all pairs of the old set.
abbrev pub NamesMore : BTreeSet Naming → BTreeSet Naming → Type 0
NamesMore old new = (q : Naming) → contains naming_cmp old q ≡ true
    → contains naming_cmp new q ≡ true

-- The id of the entity, if it references the subscription.
abbrev pub id_if_naming : ℕ → Option Entity → Option ℕ
id_if_naming id None = None
id_if_naming id (Some e) = cond (is_id id (subscription_of e.nature)) (Some e.id) None

-- The id of the intent with this number, if it exists and references the subscription.
abbrev pub dependent_at : Entities → ℕ → ℕ → Option ℕ
dependent_at m id intent = id_if_naming id (get m (Intent, intent))

-- Holds if the list has all pairs of a subscription in the index, by ascending ids of the intents.
pub record ArePairsOf (names : BTreeSet Naming) (id : ℕ) (pairs : List Naming) : Type 0 where
  pub rise : IsStrictlySortedBy nat_cmp (map (λ q. q.1) pairs)
  pub all : (intent : ℕ) → HasPair names id intent
      → list_any (λ n. is_eq (nat_cmp intent n)) (map (λ q. q.1) pairs) ≡ true
