-- An index by the cells of volumes.
use Rattle.std.specs.Prelude.{◌≡◌, ℕ, ◌+◌, ◌*◌, ◌<◌, ◌≤◌, true, length, slice_index_or, Some}
use Rattle.std.specs.List.{All}
use Rattle.std.specs.Ordering.{nat_cmp, ordering_then}
use Rattle.std.specs.declared.cmp.Ordering.{Ordering}
use Rattle.std.specs.BTreeSet.{BTreeSet, contains}
use Rattle.std.specs.FinMap.{get}
use Rattle.grid_core.specs.Cell.{Cell, IsCell, lo_of, hi_of}
use Rattle.grid_core.specs.Extent.{Extent}
use Rattle.entity_core.specs.Airspace.{Entities, EntityKey}
use Rattle.entity_core.specs.declared.entity.Entity.{Entity}
use Rattle.entity_core.specs.Entity.{kind_index, kind_of}

-- The holder of cells: a number for its put, and its id.
abbrev pub Holder : Type 0
Holder = ℕ × ℕ

-- The position of a cell of a volume, and the holder of the volume.
abbrev pub Mark : Type 0
Mark = ℕ × ℕ × ℕ

abbrev pub mark_cmp : Mark → Mark → Ordering
mark_cmp a b = ordering_then (ordering_then (nat_cmp a.0 b.0) (nat_cmp a.1 b.1)) (nat_cmp a.2 b.2)

-- The interval of a cell as one number, ordered by its first index. The last five bits are free for
-- the number of a volume.
abbrev pub position_of : Cell → ℕ
position_of c = lo_of c * 17179869184 + hi_of c * 32

abbrev pub mark_of : Holder → ℕ → Cell → Mark
mark_of h volume c = (position_of c + volume, h.0, h.1)

-- Holds if the index has a mark of the cell in this volume of the holder.
pub record IsMarked (marks : BTreeSet Mark) (h : Holder) (volume : ℕ) (c : Cell) : Type 0 where
  pub cell : IsCell c
  pub narrow : hi_of c < 536870912
  pub mark : contains mark_cmp marks (mark_of h volume c) ≡ true

-- An entity as a holder. The number of its put combines its serial and its kind.
abbrev pub holder_of : Entity → Holder
holder_of e = (2 * e.serial + kind_index (kind_of e.nature), e.id)

-- Holds if each cell of the entity's volumes is marked with the number of its volume.
pub record AllMarked (marks : BTreeSet Mark) (e : Entity) : Type 0 where
  pub few : length e.volumes ≤ 32
  pub cells : (i : ℕ) (d : Extent) → i < length e.volumes
      → All (IsMarked marks (holder_of e) i) (slice_index_or e.volumes i d).cells

-- Holds if each entity of a map is marked. The index can have other marks, too.
abbrev pub IsIndexOf : Entities → BTreeSet Mark → Type 0
IsIndexOf m marks = (k : EntityKey) (x : Entity) → get m k ≡ Some x → AllMarked marks x

-- Holds if the new set has all marks of the old set.
abbrev pub Grows : BTreeSet Mark → BTreeSet Mark → Type 0
Grows old new = (q : Mark) → contains mark_cmp old q ≡ true → contains mark_cmp new q ≡ true

-- Holds if the marks of other holders stay.
abbrev pub KeepsOthers : Holder → BTreeSet Mark → BTreeSet Mark → Type 0
KeepsOthers h old new = (q : Mark) → (q.1 ≡ h.0 → q.2 ≡ h.1 → ⊥)
    → contains mark_cmp old q ≡ true → contains mark_cmp new q ≡ true
