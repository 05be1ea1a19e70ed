-- The merge of sorted intervals into intervals that are apart.
use Rattle.std.proofs.Common.{◌≡◌, ◌∙◌, sym, ap, subst, ℕ, ◌+◌, ◌≤◌, ◌<◌, ◌⊎◌, ◌||◌, ◌&&◌, Bool, List, [], ◌∷◌, ◌++◌, length, take, get_or, arith, inl, inr, add-one, true, false, true≢false}
use Prim.Native.Nat.{max}
use Rattle.std.proofs.lemmas.Bool.{cases_lt}
use Rattle.std.specs.Prelude.{nat_le}
use Rattle.std.specs.List.{All, list_any}
use Rattle.std.specs.List.Sorted.{IsNonDecreasingBy}
use Rattle.std.proofs.Math.Bool.{or_assoc, or-false}
use Rattle.std.proofs.lemmas.Bool.Decides.{nat_tests}
use Rattle.std.proofs.lemmas.List.{take_all, get_or_default}
use Rattle.std.proofs.lemmas.List.Elements.{All-push, All-nil, All-head, All-weaker}
use Rattle.std.proofs.lemmas.List.Folds.{list_any-append, list_any_more}
use Rattle.std.proofs.lemmas.List.Quantifiers.{all_pairs_push}
use Rattle.grid_core.specs.SortedArea.{AreApart, HaveSamePlaces, IsOrdered, lies_in}
use Rattle.grid_core.specs.declared.sorted_area.Interval.{Interval}

-- Holds if the first k + 1 intervals are merged into `done` and `last`. `last` is not yet part of
-- `done`.
pub record Joins (is done : List Interval) (last : Interval) (k : ℕ) : Type 0 where
  pub same : (n : ℕ) → (list_any (lies_in n) done || lies_in n last) ≡ list_any (lies_in n) (take (k + 1) is)
  pub apart : AreApart done
  pub ordered : All IsOrdered done
  pub before : All (λ (i : Interval). i.hi < last.lo) done
  pub own : IsOrdered last
  pub low : (d : Interval) → last.lo ≤ (get_or is k d).lo

pub joins_first : (is : List Interval) (i : Interval) (rest : List Interval) → is ≡ i ∷ rest → All IsOrdered is → Joins is [] i 0
joins_first is i rest e o = record {
  same = λ n. subst (λ (js : List Interval). lies_in n i ≡ list_any (lies_in n) (take 1 js)) (sym e) (sym (or-false (lies_in n i)));
  apart = λ a b d lt in_range. absurd (omega arith);
  ordered = All-nil IsOrdered;
  before = All-nil (λ (j : Interval). j.hi < i.lo);
  own = All-head IsOrdered i rest (subst (All IsOrdered) e o);
  low = λ d. subst (λ (js : List Interval). i.lo ≤ (get_or js 0 d).lo) (sym e) (omega arith);
}

within : (a b c d m n : ℕ) → a ≤ b → c ≤ d → a ≤ c → c ≤ b + 1 → b ≤ m → d ≤ m → (m ≡ b) ⊎ (m ≡ d) → (nat_le a n && nat_le n m) ≡ ((nat_le a n && nat_le n b) || (nat_le c n && nat_le n d))
within a b c d m n p q r s t u v = grind (arith, nat_tests)

low_next : (is : List Interval) (last : Interval) (k : ℕ) → k + 1 < length is → IsNonDecreasingBy (λ (i : Interval). i.lo) is → ((d : Interval) → last.lo ≤ (get_or is k d).lo) → (d : Interval) → last.lo ≤ (get_or is (k + 1) d).lo
low_next is last k lt up low d =
    let step : (get_or is k d).lo ≤ (get_or is (k + 1) d).lo = up k (k + 1) d (omega arith) lt in
    let here : last.lo ≤ (get_or is k d).lo = low d in
    omega (arith, step, here)

-- An interval that begins in `last` or right after it extends `last`.
pub joins_merged : (is done : List Interval) (last next : Interval) (m k : ℕ) → Joins is done last k → k + 1 < length is → next ≡ get_or is (k + 1) next → All IsOrdered is → IsNonDecreasingBy (λ (i : Interval). i.lo) is
    → next.lo ≤ last.hi + 1 → last.hi ≤ m → next.hi ≤ m → (m ≡ last.hi) ⊎ (m ≡ next.hi) → Joins is done (record { lo = last.lo; hi = m }) (k + 1)
joins_merged is done last next m k j lt at o up near big big' one =
    let up_to : last.lo ≤ (get_or is (k + 1) next).lo = low_next is last k lt up j.low next in
    let above : last.lo ≤ next.lo = subst (λ (i : Interval). last.lo ≤ i.lo) (sym at) up_to in
    let own : next.lo ≤ next.hi = subst IsOrdered (sym at) (o (k + 1) next lt) in
    let lo : last.lo ≤ last.hi = j.own in
    record {
      same = λ n.
          ap (λ (b : Bool). list_any (lies_in n) done || b) (within last.lo last.hi next.lo next.hi m n lo own above near big big' one)
          ∙ (sym (or_assoc (list_any (lies_in n) done) (lies_in n last) (lies_in n next))
          ∙ (ap (λ (b : Bool). b || lies_in n next) (j.same n)
          ∙ (ap (λ (i : Interval). list_any (lies_in n) (take (k + 1) is) || lies_in n i) at
          ∙ sym (list_any_more (lies_in n) is (k + 1) next lt))));
      apart = j.apart;
      ordered = j.ordered;
      before = j.before;
      own = omega (arith, lo, big);
      low = low_next is last k lt up j.low;
    }

pushed : (done : List Interval) (last : Interval) (n : ℕ) → list_any (lies_in n) (done ++ last ∷ []) ≡ (list_any (lies_in n) done || lies_in n last)
pushed done last n = list_any-append (lies_in n) done (last ∷ []) ∙ ap (λ (b : Bool). list_any (lies_in n) done || b) (or-false (lies_in n last))

-- Pushing `last` keeps the intervals apart.
pub apart_pushed : (is done : List Interval) (last : Interval) (k : ℕ) → Joins is done last k → AreApart (done ++ last ∷ [])
apart_pushed is done last k j = all_pairs_push (λ (a b : Interval). a.hi < b.lo) done last j.apart j.before

pub ordered_pushed : (is done : List Interval) (last : Interval) (k : ℕ) → Joins is done last k → All IsOrdered (done ++ last ∷ [])
ordered_pushed is done last k j = All-push IsOrdered done last j.ordered j.own

-- If the next interval begins later, `last` is pushed unchanged.
pub joins_pushed : (is done : List Interval) (last next : Interval) (k : ℕ) → Joins is done last k → k + 1 < length is → next ≡ get_or is (k + 1) next → All IsOrdered is
    → last.hi < next.lo → Joins is (done ++ last ∷ []) next (k + 1)
joins_pushed is done last next k j lt at o far =
    let lo : last.lo ≤ last.hi = j.own in
    record {
      same = λ n.
          ap (λ (b : Bool). b || lies_in n next) (pushed done last n ∙ j.same n)
          ∙ (ap (λ (i : Interval). list_any (lies_in n) (take (k + 1) is) || lies_in n i) at
          ∙ sym (list_any_more (lies_in n) is (k + 1) next lt));
      apart = apart_pushed is done last k j;
      ordered = ordered_pushed is done last k j;
      before = All-push (λ (i : Interval). i.hi < next.lo) done last (All-weaker (λ (i : Interval). i.hi < last.lo) (λ (i : Interval). i.hi < next.lo) (λ i h. omega (arith, h, lo, far)) done j.before) far;
      own = subst IsOrdered (sym at) (o (k + 1) next lt);
      low = λ d. subst (λ (i : Interval). next.lo ≤ i.lo) (at ∙ get_or_default is (k + 1) next d lt) (omega arith);
    }

-- After the last interval, the result has the same positions as all intervals.
pub joins_all : (is done : List Interval) (last : Interval) (k : ℕ) → Joins is done last k → length is ≤ k + 1 → HaveSamePlaces (done ++ last ∷ []) is
joins_all is done last k j all n = pushed done last n ∙ (j.same n ∙ ap (list_any (lies_in n)) (take_all (k + 1) is all))

-- ---- as in the code

-- Element k of the tail is element k + 1 of the list.
pub at_rest : (is : List Interval) (i : Interval) (rest : List Interval) → is ≡ i ∷ rest → (k : ℕ) (d : Interval) → k < length rest → get_or rest k d ≡ get_or is (k + 1) (get_or rest k d)
at_rest is i rest e k d lt =
    get_or_default rest k d (get_or rest k d) lt
    ∙ (ap (λ (n : ℕ). get_or (i ∷ rest) n (get_or rest k d)) (sym (add-one k))
    ∙ ap (λ (js : List Interval). get_or js (k + 1) (get_or rest k d)) (sym e))

pub greater_of : (a b m : ℕ) → m ≡ max a b → (a ≤ m) × (b ≤ m) × ((m ≡ a) ⊎ (m ≡ b))
greater_of a b m e = elim (cases_lt a b) [
  | inl lt ↦ (omega arith, omega arith, inr (omega arith))
  | inr ge ↦ (omega arith, omega arith, inl (omega arith))
]

-- An interval that is not next to `last` begins after it.
pub is_far : (b : Bool) (low high : ℕ) → (low ≤ high + 1 → b ≡ true) → b ≡ false → high < low
is_far b low high h e = elim (cases_lt high low) [
  | inl lt ↦ lt
  | inr ge ↦ absurd (true≢false (sym (h (omega arith)) ∙ e))
]

pub joins_as : (is done done' : List Interval) (last last' : Interval) (k : ℕ) → done' ≡ done → last' ≡ last → Joins is done last k → Joins is done' last' k
joins_as is done done' last last' k d l j = subst (λ (i : Interval). Joins is done' i k) (sym l) (subst (λ (js : List Interval). Joins is js last k) (sym d) j)
