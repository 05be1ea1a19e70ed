-- A search among sorted intervals finds the only one that can overlap.
use Rattle.std.proofs.Common.{◌≡◌, ◌∙◌, sym, ap, subst, refl, ℕ, ◌≤◌, ◌<◌, inl, inr, Bool, true, false, ◌||◌, List, [], ◌∷◌, length, map, get_or, arith}
use Rattle.std.specs.Prelude.{nat_le}
use Rattle.std.specs.List.{All, Any, list_any}
use Rattle.std.specs.List.Sorted.{IsNonDecreasingBy, IsPartitionPoint}
use Rattle.std.proofs.lemmas.Bool.{cases_lt}
use Rattle.std.proofs.lemmas.Bool.Decides.{nat_tests}
use Rattle.std.proofs.lemmas.List.{get_or_default}
use Rattle.std.proofs.lemmas.List.Elements.{All-contains}
use Rattle.std.proofs.lemmas.List.Folds.{list_any_at, list_any_none, Any-from_list_any, list_any-from_Any}
use Rattle.grid_core.specs.Cell.{Cell, IsCell, Touch, lo_of, hi_of}
use Rattle.grid_core.specs.Extent.{touches}
use Rattle.grid_core.specs.SortedArea.{AreApart, IsOrdered, IsSorted, interval_of, lies_in, overlap}
use Rattle.grid_core.specs.declared.sorted_area.Interval.{Interval}
use Rattle.grid_core.proofs.IndexLaws.{ordered, touch_by_interval_lem}
use Rattle.grid_core.proofs.Meets.{any_from, any_to, both, first, second, nat_order, one_test, touch_from, touch_to}

-- ---- intervals that are apart are sorted

pub lows_rise : (is : List Interval) → All IsOrdered is → AreApart is → IsNonDecreasingBy (λ (i : Interval). i.lo) is
lows_rise is o apart i j d le lt = elim (cases_lt i j) [
  | inl less ↦
      let far : (get_or is i d).hi < (get_or is j d).lo = apart i j d less lt in
      let own : (get_or is i d).lo ≤ (get_or is i d).hi = o i d (omega arith) in
      omega (arith, far, own)
  | inr ge ↦ let e : i ≡ j = omega arith in subst (λ (k : ℕ). (get_or is i d).lo ≤ (get_or is k d).lo) e (omega arith)
]

pub highs_rise : (is : List Interval) → All IsOrdered is → AreApart is → IsNonDecreasingBy (λ (i : Interval). i.hi) is
highs_rise is o apart i j d le lt = elim (cases_lt i j) [
  | inl less ↦
      let far : (get_or is i d).hi < (get_or is j d).lo = apart i j d less lt in
      let own : (get_or is j d).lo ≤ (get_or is j d).hi = o j d lt in
      omega (arith, far, own)
  | inr ge ↦ let e : i ≡ j = omega arith in subst (λ (k : ℕ). (get_or is i d).hi ≤ (get_or is k d).hi) e (omega arith)
]

-- ---- the first interval that does not end before another begins

-- No interval before it overlaps.
before : (own i : Interval) → i.hi < own.lo → overlap own i ≡ false
before own i h = grind (arith, nat_tests)

beyond : (own i : Interval) → own.hi < i.lo → overlap own i ≡ false
beyond own i h = grind (arith, nat_tests)

here : (own i : Interval) → own.lo ≤ i.hi → i.lo ≤ own.hi → overlap own i ≡ true
here own i h k = grind (arith, nat_tests)

abbrev pub Point : Interval → List Interval → ℕ → Type 0
Point own is place = IsPartitionPoint (λ (i : Interval). i.hi < own.lo) (λ (i : Interval). own.lo ≤ i.hi) is place

-- Only the found interval can overlap.
pub found_at : (own : Interval) (is : List Interval) (place : ℕ) (i : Interval) → All IsOrdered is → AreApart is → Point own is place → place < length is → i ≡ get_or is place i
    → nat_le i.lo own.hi ≡ list_any (overlap own) is
found_at own is place i o apart point lt at = by_test (nat_le i.lo own.hi) refl
  where
    by_test : (b : Bool) → nat_le i.lo own.hi ≡ b → b ≡ list_any (overlap own) is
    by_test true e =
        let from : own.lo ≤ i.hi = subst (λ (j : Interval). own.lo ≤ j.hi) (sym at) (point.1 place i (omega arith) lt) in
        sym (list_any_at (overlap own) is place i lt (subst (λ (j : Interval). overlap own j ≡ true) at (here own i from (nat_order.from i.lo own.hi e))))
    by_test false e = sym (list_any_none (overlap own) is (λ k d in_range. elim (cases_lt k place) [
      | inl less ↦ before own (get_or is k d) (point.0 k d (omega arith) less)
      | inr ge ↦
          let rise : (get_or is place d).lo ≤ (get_or is k d).lo = lows_rise is o apart place k d ge in_range in
          let same : i ≡ get_or is place d = at ∙ get_or_default is place i d lt in
          let low : i.lo ≤ (get_or is k d).lo = subst (λ (j : Interval). j.lo ≤ (get_or is k d).lo) (sym same) rise in
          let over : own.hi < i.lo = grind (arith, nat_tests, e) in
          beyond own (get_or is k d) (omega arith)
    ]))

pub found_none : (own : Interval) (is : List Interval) (place : ℕ) → Point own is place → length is ≤ place → false ≡ list_any (overlap own) is
found_none own is place point le = sym (list_any_none (overlap own) is (λ k d lt. before own (get_or is k d) (point.0 k d (omega arith) (omega arith))))

-- ---- an interval overlaps one of an area's intervals exactly if the cell touches one of its cells

both_in : (n : ℕ) (i : Interval) → i.lo ≤ n → n ≤ i.hi → lies_in n i ≡ true
both_in n i a b = both (nat_le i.lo n) (nat_le n i.hi) (nat_order.to i.lo n a) (nat_order.to n i.hi b)

from_in : (n : ℕ) (i : Interval) → lies_in n i ≡ true → (i.lo ≤ n) × (n ≤ i.hi)
from_in n i e = (nat_order.from i.lo n (first (nat_le i.lo n) (nat_le n i.hi) e), nat_order.from n i.hi (second (nat_le i.lo n) (nat_le n i.hi) e))

any_mapped : (p : Interval → Bool) (ds : List Cell) → list_any p (map interval_of ds) ≡ list_any (λ d. p (interval_of d)) ds
any_mapped p [] = refl
any_mapped p (d ∷ ds) = ap (λ (b : Bool). p (interval_of d) || b) (any_mapped p ds)

-- Two intervals that overlap share a position.
shared : (own i : Interval) → own.lo ≤ own.hi → i.lo ≤ i.hi → overlap own i ≡ true → (n : ℕ) × (own.lo ≤ n) × (n ≤ own.hi) × (lies_in n i ≡ true)
shared own i p q e =
    let a = nat_order.from own.lo i.hi (first (nat_le own.lo i.hi) (nat_le i.lo own.hi) e) in
    let b = nat_order.from i.lo own.hi (second (nat_le own.lo i.hi) (nat_le i.lo own.hi) e) in
    elim (cases_lt own.lo i.lo) [
      | inl lt ↦ (i.lo, omega arith, b, both_in i.lo i (omega arith) q)
      | inr ge ↦ (own.lo, omega arith, p, both_in own.lo i ge a)
    ]

touch_to_overlap : (c : Cell) (ds : List Cell) (is : List Interval) → IsCell c → IsSorted ds is → Any (λ d. Touch c d) ds → list_any (overlap (interval_of c)) is ≡ true
touch_to_overlap c ds is v s t =
    let d = t.1 in
    let vd = All-contains IsCell ds d s.valid (t.0, t.2, t.3) in
    let n = (touch_by_interval_lem c d v vd).1 t.4 in
    let in_cells : list_any (λ x. lies_in n.0 (interval_of x)) ds ≡ true = list_any-from_Any (λ x. lies_in n.0 (interval_of x)) ds (t.0, d, t.2, t.3, both_in n.0 (interval_of d) n.3 n.4) in
    let found = Any-from_list_any (lies_in n.0) is (s.same n.0 ∙ (any_mapped (lies_in n.0) ds ∙ in_cells)) in
    let bounds = from_in n.0 found.1 found.4 in
    let low : lo_of c ≤ n.0 = n.1 in
    let high : n.0 ≤ hi_of c = n.2 in
    let lows : found.1.lo ≤ n.0 = bounds.0 in
    let highs : n.0 ≤ found.1.hi = bounds.1 in
    list_any-from_Any (overlap (interval_of c)) is (found.0, found.1, found.2, found.3, both (nat_le (lo_of c) found.1.hi) (nat_le found.1.lo (hi_of c)) (nat_order.to (lo_of c) found.1.hi (omega (arith, low, highs))) (nat_order.to found.1.lo (hi_of c) (omega (arith, lows, high))))

overlap_to_touch : (c : Cell) (ds : List Cell) (is : List Interval) → IsCell c → IsSorted ds is → list_any (overlap (interval_of c)) is ≡ true → Any (λ d. Touch c d) ds
overlap_to_touch c ds is v s e =
    let a = Any-from_list_any (overlap (interval_of c)) is e in
    let n = shared (interval_of c) a.1 (ordered c v) (All-contains IsOrdered is a.1 s.ordered (a.0, a.2, a.3)) a.4 in
    let in_cells = sym (any_mapped (lies_in n.0) ds) ∙ (sym (s.same n.0) ∙ list_any-from_Any (lies_in n.0) is (a.0, a.1, a.2, a.3, n.3)) in
    let d = Any-from_list_any (λ x. lies_in n.0 (interval_of x)) ds in_cells in
    let vd = All-contains IsCell ds d.1 s.valid (d.0, d.2, d.3) in
    let bounds = from_in n.0 (interval_of d.1) d.4 in
    (d.0, d.1, d.2, d.3, (touch_by_interval_lem c d.1 v vd).0 (n.0, n.1, n.2, bounds.0, bounds.1))

pub touches_sorted : (c : Cell) (ds : List Cell) (is : List Interval) → IsCell c → IsSorted ds is → list_any (overlap (interval_of c)) is ≡ list_any (λ d. touches c d) ds
touches_sorted c ds is v s = one_test (list_any (overlap (interval_of c)) is) (list_any (λ d. touches c d) ds) (Any (λ d. Touch c d) ds)
    (overlap_to_touch c ds is v s, touch_to_overlap c ds is v s)
    (any_from (λ d. touches c d) (λ d. Touch c d) (touch_from c) ds, any_to (λ d. touches c d) (λ d. Touch c d) (touch_to c) ds)
