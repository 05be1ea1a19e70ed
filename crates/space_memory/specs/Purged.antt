-- The entities and subscriptions that have ended, as an in-memory space finds them.
use Rattle.std.specs.Prelude.{◌≡◌, ℕ, ◌<◌, ◌≤◌, Bool, List, [], ◌++◌, length, map, filter}
use Rattle.entity_core.specs.Airspace.{Airspace, Entities}
use Rattle.entity_core.specs.Entity.{kind_of}
use Rattle.entity_core.specs.declared.entity.Entity.{Entity}
use Rattle.entity_core.specs.declared.subscription.Sub.{Sub}
use Rattle.entity_purge.specs.declared.purge_item.PurgeItem.{PurgeItem}
use Rattle.entity_purge.specs.declared.purge_item.PurgeItem.TheVariants as gone
use Rattle.entity_purge.specs.PurgeItem.{IsPurgeChunk}
use Rattle.entity_purge.specs.Purge.{is_due_by, has_ended}

-- The entities that have ended, in their order.
abbrev pub ended_in : ℕ → List Entity → List PurgeItem
ended_in until es =
    map (λ e. gone.Entity (kind_of e.nature) e.id) (filter (λ e. has_ended until e) es)

-- True if a subscription has ended and no intent of the map references it.
abbrev pub is_free : ℕ → Entities → Sub → Bool
is_free until m s = is_due_by until m (s.id, s)

-- All such subscriptions, in their order.
abbrev pub free_in : ℕ → Entities → List Sub → List PurgeItem
free_in until m ss = map (λ s. gone.Subscription s.id) (filter (is_free until m) ss)

-- Holds if a list has the first items of another one, at most `most` of them. It is empty only if
-- the other one is empty or `most` is 0.
pub record AreFirst (most : ℕ) (first all : List PurgeItem) : Type 0 where
  pub few : length first ≤ most
  pub rest : List PurgeItem
  pub split : first ++ rest ≡ all
  pub last : first ≡ [] → 0 < most → all ≡ []

-- Holds if the list is empty or a chunk of a purge.
abbrev pub IsChunkIfAny : ℕ → ℕ → List PurgeItem → Airspace → Type 0
IsChunkIfAny until most gone a = (gone ≡ [] → ⊥) → IsPurgeChunk until most gone a
