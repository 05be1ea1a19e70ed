-- Lemmas about elements of lists and ascending lists.
use Rattle.std.proofs.Common.{◌≡◌, ◌⊎◌, inl, inr, ◌++◌, Bool, true, ◌&&◌, ℤ, int_eq, int_cmp, is_eq, arith, List, [], ◌∷◌, map, flat_map, refl, sym, ap, ap₂, subst, ◌∙◌}
use Rattle.std.specs.Prelude.{IsPermutation}
use Rattle.std.specs.List.{AllByRecursion, AllZip}
use Rattle.std.proofs.lemmas.Int.{ints}
use Rattle.std.proofs.lemmas.Bool.{and_parts}
use Rattle.std.proofs.lemmas.Bool.Decides.{nat_tests}
use Rattle.std.specs.Ordering.{ordering_then}
use Rattle.std.specs.declared.cmp.Ordering.{Ordering}
use Rattle.std.specs.declared.cmp.Ordering.TheVariants.{Less, Equal, Greater}
use Rattle.std.specs.Cmp.{IsTotalOrder, IsEquivalence}
use Rattle.std.proofs.lemmas.Cmp.{tied_itself, int_eq_equiv, on_equiv, and_equiv, int_cmp_total, on_total, then_total}
use Rattle.std.proofs.lemmas.List.Sorted.{Contains-permutation}
use Rattle.sqlite_rules.specs.Lists.{Has}
use Rattle.sqlite_rules.proofs.ListLemmas.{all_has, has_contained, contains_had, has_left, has_right}
use Rattle.sqlite_trees.specs.Tree.{IsAscending}
use Rattle.space_rows.proofs.Chunks.{all_joined}
use Rattle.space_sql_search.specs.declared.interval.Interval.{Interval}
use Rattle.space_sql_search.specs.SearchRanges.{interval_cmp}

-- ---- equality of intervals

abbrev pub same_interval : Interval → Interval → Bool
same_interval i j = int_eq i.lo j.lo && int_eq i.hi j.hi

pub intervals_equiv : IsEquivalence same_interval
intervals_equiv = and_equiv (on_equiv (λ (i : Interval). i.lo) int_eq_equiv) (on_equiv (λ (i : Interval). i.hi) int_eq_equiv)

pub equal_intervals : (i j : Interval) → same_interval i j ≡ true → i ≡ j
equal_intervals i j e =
    let parts = and_parts (int_eq i.lo j.lo) (int_eq i.hi j.hi) e in
    let lo : i.lo ≡ j.lo = let h = parts.0 in grind (arith, ints, h) in
    let hi : i.hi ≡ j.hi = let h = parts.1 in grind (arith, ints, h) in
    λ k. record { lo = lo k; hi = hi k }

pub intervals_total : IsTotalOrder interval_cmp
intervals_total = then_total (on_total (λ (i : Interval). i.lo) int_cmp_total) (on_total (λ (i : Interval). i.hi) int_cmp_total)

both_ties : (o p : Ordering) (a b : Bool) → a ≡ is_eq o → b ≡ is_eq p → (a && b) ≡ is_eq (ordering_then o p)
both_ties Less p a b e f = ap (λ x. x && b) e
both_ties Equal p a b e f = ap (λ x. x && b) e ∙ f
both_ties Greater p a b e f = ap (λ x. x && b) e

number_ties : (m n : ℤ) → int_eq m n ≡ is_eq (int_cmp m n)
number_ties m n = grind (arith, ints, nat_tests)

pub interval_ties : (i j : Interval) → same_interval i j ≡ is_eq (interval_cmp i j)
interval_ties i j = both_ties (int_cmp i.lo j.lo) (int_cmp i.hi j.hi) (int_eq i.lo j.lo) (int_eq i.hi j.hi) (number_ties i.lo j.lo) (number_ties i.hi j.hi)

-- ---- elements

pub has_map : {X Y : Type 0} (f : X → Y) (xs : List X) (y : Y) → Has (map f xs) y → (x : X) × Has xs x × (y ≡ f x)
has_map f [] y h = absurd h
has_map f (x ∷ xs) y (inl e) = (x, inl refl, e)
has_map f (x ∷ xs) y (inr h) = let r = has_map f xs y h in (r.0, inr r.1, r.2)

pub map_has : {X Y : Type 0} (f : X → Y) (xs : List X) (x : X) → Has xs x → Has (map f xs) (f x)
map_has f [] x h = absurd h
map_has f (y ∷ xs) x (inl e) = inl (ap f e)
map_has f (y ∷ xs) x (inr h) = inr (map_has f xs x h)

pub flat_has : {X Y : Type 0} (f : X → List Y) (xs : List X) (x : X) (y : Y) → Has xs x → Has (f x) y → Has (flat_map f xs) y
flat_has f [] x y h k = absurd h
flat_has f (z ∷ xs) x y (inl e) k = has_left (f z) (flat_map f xs) y (subst (λ w. Has (f w) y) e k)
flat_has f (z ∷ xs) x y (inr h) k = has_right (f z) (flat_map f xs) y (flat_has f xs x y h k)

pub has_moved : {X : Type 0} (xs ys : List X) (x : X) → IsPermutation xs ys → Has xs x → Has ys x
has_moved xs ys x p h = has_contained ys x (Contains-permutation xs ys x p (contains_had xs x h))

-- ---- appending an element
pub each_more : {X : Type 0} (P : X → Type 0) (xs ys : List X) (x : X) → ys ≡ xs ++ x ∷ [] → AllByRecursion P xs → P x → AllByRecursion P ys
each_more P xs ys x e all here = subst (AllByRecursion P) (sym e) (all_joined P xs (x ∷ []) all (here, tt))

-- ---- related lists
pub zip_has : {X Y : Type 0} (R : X → Y → Type 0) (xs : List X) (ys : List Y) (y : Y) → AllZip R xs ys → Has ys y → (x : X) × Has xs x × R x y
zip_has R [] [] y z h = absurd h
zip_has R [] (w ∷ ys) y z h = absurd z
zip_has R (x ∷ xs) [] y z h = absurd z
zip_has R (x ∷ xs) (w ∷ ys) y z (inl e) = (x, inl refl, subst (R x) (sym e) z.0)
zip_has R (x ∷ xs) (w ∷ ys) y z (inr h) = let r = zip_has R xs ys y z.1 h in (r.0, inr r.1, r.2)

module _ {X : Type 0} (R : X → X → Ordering) (total : IsTotalOrder R) where
  abbrev Below : X → X → Type 0
  Below x y = R x y ≡ Less

  never : (x : X) → ¬ Below x x
  never x h = let tie = tied_itself total x in let both = sym h ∙ tie in cc

  not_both : (x y : X) → Below x y → ¬ Below y x
  not_both x y h k = never x (total.trans x y x h k)

  -- Ascending lists with the same elements are equal.
  pub one_list : (xs ys : List X) → IsAscending Below xs → IsAscending Below ys → ((x : X) → Has xs x → Has ys x) → ((x : X) → Has ys x → Has xs x) → xs ≡ ys
  one_list [] [] up rise to from = refl
  one_list [] (y ∷ ys) up rise to from = absurd (from y (inl refl))
  one_list (x ∷ xs) [] up rise to from = absurd (to x (inl refl))
  one_list (x ∷ xs) (y ∷ ys) up rise to from =
      let same = first (to x (inl refl)) (from y (inl refl)) in
      ap₂ ◌∷◌ same (one_list xs ys up.1 rise.1 (λ z h. rest z h (to z (inr h)) same) (λ z h. other z h (from z (inr h)) same))
    where
      first : (x ≡ y) ⊎ Has ys x → (y ≡ x) ⊎ Has xs y → x ≡ y
      first (inl e) k = e
      first (inr h) (inl e) = sym e
      first (inr h) (inr k) = absurd (not_both y x (all_has (Below y) ys x rise.0 h) (all_has (Below x) xs y up.0 k))

      rest : (z : X) → Has xs z → (z ≡ y) ⊎ Has ys z → x ≡ y → Has ys z
      rest z h (inr k) same = k
      rest z h (inl e) same = absurd (never x (subst (Below x) (e ∙ sym same) (all_has (Below x) xs z up.0 h)))

      other : (z : X) → Has ys z → (z ≡ x) ⊎ Has xs z → x ≡ y → Has xs z
      other z h (inr k) same = k
      other z h (inl e) same = absurd (never y (subst (Below y) (e ∙ same) (all_has (Below y) ys z rise.0 h)))
