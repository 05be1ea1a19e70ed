-- The volumes that an index finds near the areas of a search.
use Rattle.std.specs.Prelude.{◌≡◌, ℕ, ◌+◌, ◌*◌, ◌%◌, ◌^◌, ◌<◌, ◌≤◌, true, List, length, slice_index_or, unwrap_or}
use Rattle.std.specs.Int.{bit_at}
use Rattle.std.specs.List.{All}
use Rattle.std.specs.Ordering.{nat_cmp, ordering_then}
use Rattle.std.specs.declared.cmp.Ordering.{Ordering}
use Rattle.std.specs.BTreeMap.{BTreeMap, get}
use Rattle.std.specs.BTreeSet.{BTreeSet, contains}
use Rattle.grid_core.specs.Cell.{Cell, IsCell, lo_of, hi_of, parent_of}
use Rattle.grid_core.specs.Extent.{Extent, Region, Meet, region_of}
use Rattle.space_memory.specs.CellIndex.{Holder, Mark, IsMarked, mark_cmp, position_of}

-- Holds if x is the element at index i.
abbrev pub IsAt : {X : Type 0} → List X → ℕ → X → Type 0
IsAt xs i x = (i < length xs) × (slice_index_or xs i x ≡ x)

-- ---- bits for areas: areas whose indexes are equal modulo 64 share a bit

abbrev pub Pair : Type 0
Pair = ℕ × ℕ

abbrev pub pair_cmp : Pair → Pair → Ordering
pair_cmp a b = ordering_then (nat_cmp a.0 b.0) (nat_cmp a.1 b.1)

-- Holds if a bit is set under a key.
abbrev pub HasBit : BTreeMap Pair ℕ → Pair → ℕ → Type 0
HasBit m k b = bit_at (unwrap_or (get pair_cmp m k) 0) b ≡ 1

-- Holds if all these bits are set under a key.
abbrev pub HasBits : BTreeMap Pair ℕ → Pair → ℕ → Type 0
HasBits m k bits = (b : ℕ) → bit_at bits b ≡ 1 → HasBit m k b

-- Holds if each bit that was set is still set.
abbrev pub Widens : BTreeMap Pair ℕ → BTreeMap Pair ℕ → Type 0
Widens old new = (k : Pair) (b : ℕ) → HasBit old k b → HasBit new k b

-- ---- spans in which an index is searched: the range of a cell, and its ancestors

-- A range of positions. The end is not included.
abbrev pub Span : Type 0
Span = Pair

-- The positions of all cells that begin inside a cell.
abbrev pub range_of : Cell → Span
range_of c = (lo_of c * 17179869184, (hi_of c + 1) * 17179869184)

-- The positions of one cell only.
abbrev pub exact_of : Cell → Span
exact_of c = (position_of c, position_of c + 32)

-- Holds if the bits are set for the spans of all cells at levels below 13 that contain the cell.
abbrev pub HasAncestors : BTreeMap Span ℕ → ℕ → Cell → Type 0
HasAncestors spans bits c = (k : ℕ) → k < length c.digits → k < 13
    → HasBits spans (exact_of (parent_of c k)) bits

-- Holds if the bits are set for the spans of all cells that touch the cell.
pub record HasSpansOf (spans : BTreeMap Span ℕ) (bits : ℕ) (c : Cell) : Type 0 where
  pub cell : IsCell c
  pub range : HasBits spans (range_of c) bits
  pub ancestors : HasAncestors spans bits c

-- Holds if the bit of each area is set for the spans of its cells.
abbrev pub HasAllSpans : BTreeMap Span ℕ → List Region → Type 0
HasAllSpans spans areas = (j : ℕ) (d : Region) → j < length areas
    → All (HasSpansOf spans (2 ^ (j % 64))) (slice_index_or areas j d).cells

-- ---- candidates

-- The id of a holder and the number of one of its volumes.
abbrev pub Part : Type 0
Part = Pair

abbrev pub part_of : Mark → Part
part_of q = (q.2, q.0 % 32)

-- Holds if the volumes whose marks are in the span have these bits.
abbrev pub Gathers : BTreeSet Mark → Span → ℕ → BTreeMap Part ℕ → Type 0
Gathers marks span bits near = (q : Mark) → contains mark_cmp marks q ≡ true → span.0 ≤ q.0
    → q.0 < span.1 → HasBits near (part_of q) bits

-- Holds if the part of a span before `start` lies in another span, which has at least the same
-- bits.
abbrev pub IsStart : Span → ℕ → Span → ℕ → ℕ → Type 0
IsStart span bits done done_bits start = (q : ℕ) → span.0 ≤ q → q < start
    → (done.0 ≤ q) × (q < done.1)
    × ((b : ℕ) → bit_at bits b ≡ 1 → bit_at done_bits b ≡ 1)

abbrev pub GathersAll : BTreeSet Mark → BTreeMap Span ℕ → BTreeMap Part ℕ → Type 0
GathersAll marks spans near = (r : Span) (b : ℕ) → HasBit spans r b
    → (q : Mark) → contains mark_cmp marks q ≡ true → r.0 ≤ q.0 → q.0 < r.1
    → HasBit near (part_of q) b

-- Holds if each volume in the index has the bits of the areas that it meets.
abbrev pub HasMeeting : BTreeSet Mark → List Region → BTreeMap Part ℕ → Type 0
HasMeeting marks areas near = (h : Holder) (i : ℕ) (v : Extent) → i < 32
    → All (IsMarked marks h i) v.cells → (j : ℕ) (a : Region) → IsAt areas j a
    → Meet (region_of v) a → HasBit near (h.1, i) (j % 64)
