-- The results of checking the candidates of a search.
use Rattle.std.specs.Prelude.{◌≡◌, ℕ, ◌%◌, ◌&&◌, ◌⊎◌, Bool, true, List, Option, Some}
use Rattle.std.specs.Int.{bit_at}
use Rattle.std.specs.Ordering.{nat_cmp}
use Rattle.std.specs.BTreeMap.{BTreeMap}
use Rattle.std.specs.BTreeSet.{BTreeSet, contains}
use Rattle.std.specs.FinMap.{get}
use Rattle.grid_core.specs.Extent.{Extent, Region, meets, region_of}
use Rattle.grid_core.specs.Volumes.{meets_some}
use Rattle.entity_core.specs.Airspace.{Entities}
use Rattle.entity_core.specs.IdTexts.{same_text}
use Rattle.entity_core.specs.Search.{is_sought}
use Rattle.entity_core.specs.declared.entity.Entity.{Entity}
use Rattle.entity_core.specs.declared.nature.Kind.{Kind}
use Rattle.entity_core.specs.declared.subscription.Sub.{Sub}
use Rattle.space_memory.specs.Near.{HasBit, IsAt, Part}

-- Holds if the answer for a candidate is right. It is true only if the value with the candidate's
-- id passes the test. It is true if the value passes and the volume meets an area whose bit is set.
pub record Judges {X : Type 0} (look : ℕ → Option X) (volumes : X → List Extent)
    (test : ℕ × X → Bool) (areas : List Region) (part : Part) (bits : ℕ) (answer : Bool)
    : Type 0 where
  pub sound : (x : X) → look part.0 ≡ Some x → answer ≡ true → test (part.0, x) ≡ true
  pub whole : (x : X) (v : Extent) (j : ℕ) (a : Region) → look part.0 ≡ Some x
      → test (part.0, x) ≡ true → IsAt (volumes x) part.1 v → IsAt areas j a
      → bit_at bits (j % 64) ≡ 1 → meets (region_of v) a ≡ true → answer ≡ true

-- Holds if the id is added to the set exactly if the answer is true.
pub record AddsAt (answer : Bool) (id : ℕ) (old new : BTreeSet ℕ) : Type 0 where
  pub there : answer ≡ true → contains nat_cmp new id ≡ true
  pub kept : (q : ℕ) → contains nat_cmp old q ≡ true → contains nat_cmp new q ≡ true
  pub only : (q : ℕ) → contains nat_cmp new q ≡ true
      → (contains nat_cmp old q ≡ true) ⊎ ((answer ≡ true) × (q ≡ id))

-- Holds if every value found under one of the ids passes the test.
abbrev pub OnlyPassing : {X : Type 0} → (ℕ → Option X) → (ℕ × X → Bool) → BTreeSet ℕ → Type 0
OnlyPassing {X} look test ids = (id : ℕ) (x : X) → contains nat_cmp ids id ≡ true
    → look id ≡ Some x → test (id, x) ≡ true

-- Holds if the candidate is a volume of this list that meets an area, and the candidate's bit for
-- this area is set.
pub record MeetsNear (volumes : List Extent) (areas : List Region) (near : BTreeMap Part ℕ)
    (part : Part) : Type 0 where
  pub volume : Extent
  pub volume_at : IsAt volumes part.1 volume
  pub place : ℕ
  pub area : Region
  pub area_at : IsAt areas place area
  pub bit : HasBit near part (place % 64)
  pub meeting : meets (region_of volume) area ≡ true

-- Holds if the ids include each value that passes the test and has a candidate volume that meets an
-- area.
abbrev pub AllPassing : {X : Type 0} → (ℕ → Option X) → (X → List Extent) → (ℕ × X → Bool)
    → List Region → BTreeMap Part ℕ → BTreeSet ℕ → Type 0
AllPassing {X} look volumes test areas near ids = (part : Part) (x : X) → look part.0 ≡ Some x
    → test (part.0, x) ≡ true → MeetsNear (volumes x) areas near part
    → contains nat_cmp ids part.0 ≡ true

-- The entity with this kind and id, if any.
abbrev pub entity_of : Entities → Kind → ℕ → Option Entity
entity_of m kind id = get m (kind, id)

-- True if the entity matches the search.
abbrev pub is_sought_of : Kind → List Region → Option ℕ → ℕ × Entity → Bool
is_sought_of kind areas except e = is_sought kind areas except ((kind, e.0), e.1)

-- True if a subscription belongs to the USS and meets some area.
abbrev pub is_own_of : List ℕ → List Region → ℕ × Sub → Bool
is_own_of uss areas s = same_text s.1.manager uss && meets_some s.1.volume areas
