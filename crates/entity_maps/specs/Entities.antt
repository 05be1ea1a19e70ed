-- Entities ordered by kind and id.
use Rattle.std.specs.Prelude.{◌≡◌, ℕ, nat_eq, Bool, false, List, Option, Some, None}
use Rattle.std.specs.Ordering.{is_le}
use Rattle.std.specs.List.{AllByRecursion}
use Rattle.entity_core.specs.declared.entity.Entity.{Entity}
use Rattle.entity_core.specs.Airspace.{Entities, EntityKey, key_cmp, key_of}
use Rattle.entity_core.specs.Entity.{kind_index}
use Rattle.entity_maps.specs.Sorted.{Rise, map_of}

-- An entity under its key.
abbrev pub pair_of : Entity → EntityKey × Entity
pair_of e = (key_of e, e)

-- A key as a pair of numbers with the same order.
abbrev pub numbers_of : EntityKey → ℕ × ℕ
numbers_of k = (kind_index k.0, k.1)

-- Holds if each entity is stored under its own key.
abbrev pub AreKeyed : List ((ℕ × ℕ) × Entity) → Type 0
AreKeyed es = AllByRecursion (λ e. e.0 ≡ numbers_of (key_of e.1)) es

abbrev pub InOrder : List Entity → Type 0
InOrder es = Rise key_cmp pair_of es

-- The map of a list of entities.
abbrev pub entity_map : List Entity → Entities
entity_map es = map_of key_cmp pair_of es

-- True if there is an entity and it was last put at this serial.
abbrev pub was_put_at : ℕ → Option Entity → Bool
was_put_at serial None = false
was_put_at serial (Some e) = nat_eq e.serial serial

-- True if an entity has the key or a later one.
abbrev pub comes_from : EntityKey → Entity → Bool
comes_from k e = is_le (key_cmp k (key_of e))
