-- The position and time of an operation.
use Rattle.std.specs.Prelude.{ℕ, List, [], ◌∷◌, ℤ, ◌≤◌, ◌≤ℤ◌, Bool, true, false, ◌&&◌, ◌||◌, nat_eq, nat_le, nat_lt, int_le, Option, Some, None, pos, negsuc, length, sum_by, ◌^◌, ◌-◌, if◌then◌else◌}
use Rattle.grid_core.specs.Cell.{Cell, Touch, cut}
use Rattle.std.specs.List.{Any, list_any}
use Rattle.grid_core.specs.declared.volume_fault.VolumeFault.{VolumeFault}
use Rattle.grid_core.specs.declared.volume_fault.VolumeFault.TheVariants.{Empty, TooMany, Altitude, Time}

-- The cells, altitudes and times of a volume. Both ends are included.
pub record Extent : Type 0 where
  pub cells : List Cell
  pub altitude : ℤ × ℤ
  pub time : ℕ × ℕ

-- The cells, altitudes and times of an area. An absent bound does not restrict.
pub record Region : Type 0 where
  pub cells : List Cell
  pub lowest : Option ℤ
  pub highest : Option ℤ
  pub first : Option ℕ
  pub last : Option ℕ

abbrev pub extent_of : List Cell → ℤ × ℤ → ℕ × ℕ → Extent
extent_of cells altitude time = record { cells = cells; altitude = altitude; time = time }

abbrev pub region_with : List Cell → Option ℤ × Option ℤ → Option ℕ × Option ℕ → Region
region_with cells altitude time = record {
  cells = cells;
  lowest = altitude.0;
  highest = altitude.1;
  first = time.0;
  last = time.1;
}

-- An extent as a region whose bounds are all present.
abbrev pub region_of : Extent → Region
region_of e = record {
  cells = e.cells;
  lowest = Some e.altitude.0;
  highest = Some e.altitude.1;
  first = Some e.time.0;
  last = Some e.time.1;
}

-- Hold if x is not below the lower bound, and if it is not above the upper bound.
abbrev pub IsFrom : {K : Type 0} → (K → K → Type 0) → Option K → K → Type 0
IsFrom Le None x = Unit {0}
IsFrom Le (Some low) x = Le low x

abbrev pub IsUpTo : {K : Type 0} → (K → K → Type 0) → Option K → K → Type 0
IsUpTo Le None x = Unit {0}
IsUpTo Le (Some high) x = Le x high

-- Holds if some value lies between both pairs of bounds.
abbrev pub Share : {K : Type 0} → (K → K → Type 0) → Option K → Option K → Option K → Option K
    → Type 0
Share {K} Le low high low' high' = (x : K) × IsFrom Le low x × IsUpTo Le high x × IsFrom Le low' x
    × IsUpTo Le high' x

-- Holds if a cell of one region touches a cell of the other, and the two share an altitude and a
-- time.
pub record Meet (a b : Region) : Type 0 where
  pub cells : Any (λ c. Any (λ d. Touch c d) b.cells) a.cells
  pub altitude : Share ◌≤ℤ◌ a.lowest a.highest b.lowest b.highest
  pub time : Share ◌≤◌ a.first a.last b.first b.last

-- ---- the same, as tests

abbrev pub is_prefix : List ℕ → List ℕ → Bool
is_prefix [] ys = true
is_prefix (x ∷ xs) [] = false
is_prefix (x ∷ xs) (y ∷ ys) = nat_eq x y && is_prefix xs ys

abbrev pub contains : Cell → Cell → Bool
contains a b = nat_eq a.face b.face && is_prefix a.digits b.digits

abbrev pub touches : Cell → Cell → Bool
touches a b = contains (cut a) (cut b) || contains (cut b) (cut a)

abbrev pub any_touch : List Cell → List Cell → Bool
any_touch cs ds = list_any (λ c. list_any (λ d. touches c d) ds) cs

-- True if the lower bound is not above the upper bound.
abbrev pub reaches : {K : Type 0} → (K → K → Bool) → Option K → Option K → Bool
reaches le None high = true
reaches le (Some l) None = true
reaches le (Some l) (Some h) = le l h

abbrev pub shares : {K : Type 0} → (K → K → Bool) → Option K → Option K → Option K → Option K → Bool
shares le low high low' high' =
    (reaches le low high && reaches le low high')
    && (reaches le low' high && reaches le low' high')

abbrev pub meets : Region → Region → Bool
meets a b =
    any_touch a.cells b.cells
    && (shares int_le a.lowest a.highest b.lowest b.highest
    && shares nat_le a.first a.last b.first b.last)

-- True if some volume meets some area.
abbrev pub any_meet : List Extent → List Region → Bool
any_meet es rs = list_any (λ e. list_any (λ r. meets (region_of e) r) rs) es

abbrev pub AnyMeet : List Extent → List Region → Type 0
AnyMeet es rs = Any (λ e. Any (λ r. Meet (region_of e) r) rs) es

-- ---- limits and covered cells

-- True if a bound is absent or within the limits.
abbrev pub is_within : {K : Type 0} → (K → K → Bool) → K → K → Option K → Bool
is_within le least most None = true
is_within le least most (Some x) = le least x && le x most

abbrev pub are_bounds : {K : Type 0} → (K → K → Bool) → K → K → Option K → Option K → Bool
are_bounds le least most low high =
    is_within le least most low && (is_within le least most high && reaches le low high)

-- True if altitudes are from -100,000 to 1,000,000 decimetres, and times from 0 to 253,402,300,799
-- seconds since 1970. The lower bound is not above the upper.
abbrev pub are_altitudes : Option ℤ → Option ℤ → Bool
are_altitudes low high = are_bounds int_le (negsuc 99999) (pos 1000000) low high

abbrev pub are_times : Option ℕ → Option ℕ → Bool
are_times first last = are_bounds nat_le 0 253402300799 first last

-- The first fault of a region: 1 to 512 cells, then the altitudes, then the times.
abbrev pub region_fault : Region → Option VolumeFault
region_fault r =
    if nat_lt (length r.cells) 1 then Some Empty
    else if nat_lt 512 (length r.cells) then Some TooMany
    else if are_altitudes r.lowest r.highest
    then (if are_times r.first r.last then None else Some Time)
    else Some Altitude

-- The number of level-13 cells that a cell counts for.
abbrev pub covers : Cell → ℕ
covers c = if nat_le 13 (length c.digits) then 1 else 4 ^ (13 - length c.digits)

-- The sum over all cells of a list, each cell counted.
abbrev pub covered_by : List Cell → ℕ
covered_by cs = sum_by covers cs
