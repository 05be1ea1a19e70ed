-- Laws of cells and extents.
use Rattle.std.specs.Prelude.{◌≡◌, ◌↔◌, ℕ, ◌≤◌, ◌<◌, ◌⊎◌, List, length, IsTrue}
use Rattle.grid_core.specs.Cell.{Cell, IsCell, Touch, lo_of, hi_of, parent_of}
use Rattle.grid_core.specs.Extent.{Extent, Region, Meet, meets, AnyMeet, any_meet}

-- ---- the tests of whether regions meet agree with the relations

abbrev pub MeetsIsMeet : Type 0
MeetsIsMeet = (a b : Region) → IsTrue (meets a b) ↔ Meet a b

abbrev pub AnyMeetIsRelation : Type 0
AnyMeetIsRelation = (es : List Extent) (rs : List Region) → IsTrue (any_meet es rs) ↔ AnyMeet es rs

-- ---- the intervals of cells, for an index on them

-- Holds if a number lies in the intervals of both cells.
abbrev pub ShareNumber : Cell → Cell → Type 0
ShareNumber c d = (n : ℕ) × (lo_of c ≤ n) × (n ≤ hi_of c) × (lo_of d ≤ n) × (n ≤ hi_of d)

-- States that two cells touch exactly if their intervals share a number.
abbrev pub TouchByInterval : Type 0
TouchByInterval = (c d : Cell) → IsCell c → IsCell d → ShareNumber c d ↔ Touch c d

-- Holds if the interval of the first cell lies in that of the second.
abbrev pub LiesIn : Cell → Cell → Type 0
LiesIn c d = (lo_of d ≤ lo_of c) × (hi_of c ≤ hi_of d)

-- States that the intervals of two cells are apart or one lies in the other.
abbrev pub ApartOrNested : Type 0
ApartOrNested = (c d : Cell) → IsCell c → IsCell d
    → (hi_of c < lo_of d) ⊎ (hi_of d < lo_of c) ⊎ LiesIn c d ⊎ LiesIn d c

-- Holds if d has the interval of a cell at a level below 13 that contains c.
abbrev pub IsAbove : Cell → Cell → Type 0
IsAbove d c = (k : ℕ) × (k < length c.digits) × (k < 13) × (lo_of d ≡ lo_of (parent_of c k))
    × (hi_of d ≡ hi_of (parent_of c k))

-- States that d touches c exactly if its interval begins in that of c, or is that of a cell that
-- contains c.
abbrev pub FoundByIndex : Type 0
FoundByIndex = (c d : Cell) → IsCell c → IsCell d
    → Touch d c ↔ (((lo_of c ≤ lo_of d) × (lo_of d ≤ hi_of c)) ⊎ IsAbove d c)
