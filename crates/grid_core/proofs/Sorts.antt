-- The intervals of cells, sorted and merged.
use Rattle.std.proofs.Common.{◌≡◌, ◌∙◌, sym, ap, subst, ℕ, ◌+◌, ◌<◌, List, [], ◌∷◌, ◌++◌, length, map, take, get_or}
use Rattle.std.specs.List.{All}
use Rattle.std.specs.List.Sorted.{IsPermutation}
use Rattle.std.proofs.lemmas.List.{map-append, take_more}
use Rattle.std.proofs.lemmas.List.Elements.{All-map, All-more, All-weaker}
use Rattle.std.proofs.lemmas.List.Sorted.{All-permutation, list_any-IsPermutation}
use Rattle.grid_core.specs.Cell.{Cell, IsCell}
use Rattle.grid_core.specs.SortedArea.{AreApart, HaveSamePlaces, IsOrdered, IsSorted, interval_of, lies_in}
use Rattle.grid_core.specs.declared.sorted_area.Interval.{Interval}
use Rattle.grid_core.proofs.IndexLaws.{ordered}

-- Holds if the intervals are those of the cells, in some order.
pub record Sorts (ds : List Cell) (js : List Interval) : Type 0 where
  pub valid : All IsCell ds
  pub moved : IsPermutation (map interval_of ds) js

pub sorts : (ds : List Cell) (is js seen : List Interval) → is ≡ map interval_of ds → All IsCell ds → IsPermutation is js → seen ≡ js → Sorts ds seen
sorts ds is js seen e v p s = record { valid = v; moved = subst (λ (ks : List Interval). IsPermutation ks seen) e (subst (IsPermutation is) (sym s) p) }

pub sorts_ordered : (ds : List Cell) (seen : List Interval) → Sorts ds seen → All IsOrdered seen
sorts_ordered ds seen s = All-permutation IsOrdered (map interval_of ds) seen s.moved (All-map IsOrdered interval_of ds (All-weaker IsCell (λ d. IsOrdered (interval_of d)) ordered ds s.valid))

pub sorts_joined : (cells ds : List Cell) (seen joined : List Interval) → cells ≡ ds → Sorts ds seen → All IsOrdered joined → AreApart joined → HaveSamePlaces joined seen → IsSorted cells joined
sorts_joined cells ds seen joined e s o a same = subst (λ (cs : List Cell). IsSorted cs joined) (sym e) (record {
  valid = s.valid;
  ordered = o;
  apart = a;
  same = λ n. same n ∙ sym (list_any-IsPermutation (lies_in n) (map interval_of ds) seen s.moved);
})

-- Pushing the interval of the next cell gives the intervals of one more cell.
pub intervals_more : (ds : List Cell) (k : ℕ) (d : Cell) (i : Interval) (before after : List Interval) → k < length ds → d ≡ get_or ds k d → i ≡ interval_of d → after ≡ before ++ i ∷ [] → before ≡ map interval_of (take k ds)
    → after ≡ map interval_of (take (k + 1) ds)
intervals_more ds k d i before after lt at is e h =
    e
    ∙ (ap (λ (js : List Interval). js ++ i ∷ []) h
    ∙ (ap (λ (j : Interval). map interval_of (take k ds) ++ j ∷ []) (is ∙ ap interval_of at)
    ∙ (sym (map-append interval_of (take k ds) (get_or ds k d ∷ [])) ∙ sym (ap (map interval_of) (take_more ds k d lt)))))

pub valid_more : (ds : List Cell) (k : ℕ) (d : Cell) → k < length ds → d ≡ get_or ds k d → IsCell d → All IsCell (take k ds) → All IsCell (take (k + 1) ds)
valid_more ds k d lt at v h = All-more IsCell ds k d lt h (subst IsCell at v)
