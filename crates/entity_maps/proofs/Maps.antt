-- Lists sorted by key, and their maps.
use Rattle.std.specs.Prelude.{◌≡◌, Bool, true, false, cond, ◌&&◌, T, List, [], ◌∷◌, ◌++◌, map, filter, length, Some, None, refl}
use Rattle.std.specs.Ordering.{is_eq, is_lt, ordering_reverse}
use Rattle.std.specs.declared.cmp.Ordering.{Ordering}
use Rattle.std.specs.declared.cmp.Ordering.TheVariants.{Less, Equal, Greater}
use Rattle.std.specs.Cmp.{IsTotalOrder}
use Rattle.std.specs.FinMap.{IsAntisymmetric, get, insert, empty, find, entries, entries-insert, get-from_entries, from_entries, len-empty, same_entries_map, len-entries}
use Rattle.std.specs.FinMap.Entries.{put, by_order, below_all, is_sorted, is_sorted-put}
use Rattle.std.proofs.lemmas.Cmp.{alike_right}
use Rattle.std.proofs.lemmas.List.{nil_from_length}
use Rattle.entity_maps.specs.Sorted.{keyed, Rise, map_of, AllBelow, StartsAbove}
use Rattle.entity_core.proofs.Entries.{first, second, less}
use Rattle.std.proofs.Common.{ℕ, suc, zero, ◌<◌, ◌≤◌, get_or, take, drop, arith, sym, ap, ◌∙◌, subst}

-- Inserting a key below all others puts its entry first.
put_first : {K X : Type 0} (R : K → K → Ordering) (k : K) (x : X) (es : List (K × X)) → T (below_all R k es) → put R k x es ≡ (k, x) ∷ es
put_first R k x [] h = refl
put_first R k x (e ∷ es) h = ap (λ (r : Ordering). by_order r ((k, x) ∷ e ∷ es) ((e.0, x) ∷ es) (e ∷ put R k x es)) (less (R k e.0) (first _ _ h))

-- The entries of the map of a sorted list are the list.
entries-from_entries : {K X : Type 0} {R : K → K → Ordering} → IsTotalOrder R → (es : List (K × X)) → T (is_sorted R es) → entries (from_entries {R = R} es) ≡ es
entries-from_entries {R = R} o [] s = nil_from_length (entries (empty {R = R})) (sym (len-entries (empty {R = R})) ∙ len-empty R _)
entries-from_entries {R = R} o (e ∷ es) s =
    entries-insert o (from_entries {R = R} es) e.0 e.1
    ∙ (ap (put R e.0 e.1) (entries-from_entries o es (second (below_all R e.0 es) _ s)) ∙ put_first R e.0 e.1 es (first _ _ s))

module _ {A K X : Type 0} (R : K → K → Ordering) (pair : A → K × X) where
  abbrev key : A → K
  key x = (pair x).0

  abbrev val : A → X
  val x = (pair x).1

  -- Filtering the pairs and taking their values gives the filtered values.
  pub kept_values : (p : K × X → Bool) (xs : List A) → map (λ e. e.1) (filter p (keyed pair xs)) ≡ map val (filter (λ x. p (pair x)) xs)
  kept_values p [] = refl
  kept_values p (x ∷ xs) = elim (p (pair x)) as (λ b. map (λ e. e.1) (cond b (pair x ∷ filter p (keyed pair xs)) (filter p (keyed pair xs))) ≡ map val (cond b (x ∷ filter (λ y. p (pair y)) xs) (filter (λ y. p (pair y)) xs))) [
    | true ↦ ap (λ (ys : List X). val x ∷ ys) (kept_values p xs)
    | false ↦ kept_values p xs
  ]

  pub Rise_rest : (xs ys : List A) → Rise R pair (xs ++ ys) → Rise R pair ys
  Rise_rest [] ys s = s
  Rise_rest (x ∷ xs) ys s = Rise_rest xs ys (second (below_all R (key x) (keyed pair (xs ++ ys))) _ s)

  -- ---- by index

  pub below_from : (k : K) (xs : List A) (i : ℕ) → i ≤ length xs → ((j : ℕ) (d : A) → j < i → R (key (get_or xs j d)) k ≡ Less) → AllBelow R pair k (take i xs)
  below_from k xs zero h p = tt
  below_from k [] (suc i) h p = tt
  below_from k (x ∷ xs) (suc i) h p = (p zero x (omega arith), below_from k xs i (omega arith) (λ j d l. p (suc j) d (omega arith)))

  pub starts_from : (k : K) (xs : List A) (i : ℕ) → ((d : A) → i < length xs → R (key (get_or xs i d)) k ≡ Greater) → StartsAbove R pair k (drop i xs)
  starts_from k [] zero p = tt
  starts_from k [] (suc i) p = tt
  starts_from k (x ∷ xs) zero p = p x (omega arith)
  starts_from k (x ∷ xs) (suc i) p = starts_from k xs i (λ d l. p d (omega arith))

  under : (q : K) (xs ys : List A) (w : A) → T (below_all R q (keyed pair (xs ++ w ∷ ys))) → R q (key w) ≡ Less
  under q [] ys w h = less (R q (key w)) (first _ _ h)
  under q (x ∷ xs) ys w h = under q xs ys w (second (is_lt (R q (key x))) _ h)

  pub below_hit : IsTotalOrder R → (k : K) (xs ys : List A) (w : A) → Rise R pair (xs ++ w ∷ ys) → R (key w) k ≡ Equal → AllBelow R pair k xs
  below_hit o k [] ys w s e = tt
  below_hit o k (x ∷ xs) ys w s e = (
    sym (alike_right o (key w) k (key x) e) ∙ under (key x) xs ys w (first _ _ s),
    below_hit o k xs ys w (second (below_all R (key x) (keyed pair (xs ++ w ∷ ys))) _ s) e,
  )

  not_after : IsTotalOrder R → (x y : K) → R x y ≡ Less → is_lt (R y x) ≡ false
  not_after o x y e = ap is_lt (o.antisymm y x ∙ ap ordering_reverse e)

  -- Adjacent elements are in order.
  pub neighbours : IsTotalOrder R → (xs : List A) (i : ℕ) (d : A) → suc i < length xs → Rise R pair xs → is_lt (R (key (get_or xs (suc i) d)) (key (get_or xs i d))) ≡ false
  neighbours o [] i d h s = absurd (omega arith)
  neighbours o (x ∷ []) i d h s = absurd (omega arith)
  neighbours o (x ∷ y ∷ xs) zero d h s = not_after o (key x) (key y) (less (R (key x) (key y)) (first _ _ (first _ _ s)))
  neighbours o (x ∷ y ∷ xs) (suc i) d h s = neighbours o (y ∷ xs) i d (omega arith) (second (below_all R (key x) (keyed pair (y ∷ xs))) _ s)

  module _ (o : IsTotalOrder R) where
    above : (x : A) (k : K) → R (key x) k ≡ Less → R k (key x) ≡ Greater
    above x k e = o.antisymm k (key x) ∙ ap ordering_reverse e

    below : (x : A) (k : K) → R (key x) k ≡ Greater → R k (key x) ≡ Less
    below x k e = o.antisymm k (key x) ∙ ap ordering_reverse e

    level : (x : A) (k : K) → R (key x) k ≡ Equal → R k (key x) ≡ Equal
    level x k e = o.antisymm k (key x) ∙ ap ordering_reverse e

    -- Inserting a new value between smaller and larger keys is a put.
    pub put_between : (v : A) (xs ys : List A) → AllBelow R pair (key v) xs → StartsAbove R pair (key v) ys → keyed pair (xs ++ v ∷ ys) ≡ put R (key v) (val v) (keyed pair (xs ++ ys))
    put_between v [] [] a b = refl
    put_between v [] (y ∷ ys) a b = ap (λ (r : Ordering). by_order r (pair v ∷ pair y ∷ keyed pair ys) ((key y, val v) ∷ keyed pair ys) (pair y ∷ put R (key v) (val v) (keyed pair ys))) (sym (below y (key v) b))
    put_between v (x ∷ xs) ys a b =
        ap (λ (es : List (K × X)). pair x ∷ es) (put_between v xs ys a.1 b)
        ∙ ap (λ (r : Ordering). by_order r (pair v ∷ pair x ∷ keyed pair (xs ++ ys)) ((key x, val v) ∷ keyed pair (xs ++ ys)) (pair x ∷ put R (key v) (val v) (keyed pair (xs ++ ys)))) (sym (above x (key v) a.0))

    -- Replacing a value under its key is a put.
    pub put_over : IsAntisymmetric R → (v w : A) (xs ys : List A) → AllBelow R pair (key v) xs → R (key w) (key v) ≡ Equal → keyed pair (xs ++ v ∷ ys) ≡ put R (key v) (val v) (keyed pair (xs ++ w ∷ ys))
    put_over same v w [] ys a e =
        ap (λ (k : K). (k, val v) ∷ keyed pair ys) (sym (same (key w) (key v) e))
        ∙ ap (λ (r : Ordering). by_order r (pair v ∷ pair w ∷ keyed pair ys) ((key w, val v) ∷ keyed pair ys) (pair w ∷ put R (key v) (val v) (keyed pair ys))) (sym (level w (key v) e))
    put_over same v w (x ∷ xs) ys a e =
        ap (λ (es : List (K × X)). pair x ∷ es) (put_over same v w xs ys a.1 e)
        ∙ ap (λ (r : Ordering). by_order r (pair v ∷ pair x ∷ keyed pair (xs ++ w ∷ ys)) ((key x, val v) ∷ keyed pair (xs ++ w ∷ ys)) (pair x ∷ put R (key v) (val v) (keyed pair (xs ++ w ∷ ys)))) (sym (above x (key v) a.0))

    -- ---- lookups

    pub find_past : (k : K) (xs ys : List A) → AllBelow R pair k xs → find R k (keyed pair (xs ++ ys)) ≡ find R k (keyed pair ys)
    find_past k [] ys a = refl
    find_past k (x ∷ xs) ys a = ap (λ (r : Ordering). cond (is_eq r) (Some (val x)) (find R k (keyed pair (xs ++ ys)))) (above x k a.0) ∙ find_past k xs ys a.1

    pub find_here : (k : K) (x : A) (ys : List A) → R (key x) k ≡ Equal → find R k (keyed pair (x ∷ ys)) ≡ Some (val x)
    find_here k x ys e = ap (λ (r : Ordering). cond (is_eq r) (Some (val x)) (find R k (keyed pair ys))) (level x k e)

    find_below : (k : K) (ys : List A) → T (below_all R k (keyed pair ys)) → find R k (keyed pair ys) ≡ None
    find_below k [] h = refl
    find_below k (y ∷ ys) h = ap (λ (r : Ordering). cond (is_eq r) (Some (val y)) (find R k (keyed pair ys))) (less (R k (key y)) (first _ _ h)) ∙ find_below k ys (second (is_lt (R k (key y))) _ h)

    lower : (k l : K) (ys : List A) → R k l ≡ Less → T (below_all R l (keyed pair ys)) → T (below_all R k (keyed pair ys))
    lower k l [] e h = tt
    lower k l (y ∷ ys) e h =
        let here : R k (key y) ≡ Less = o.trans k l (key y) e (less (R l (key y)) (first _ _ h)) in
        subst (λ (r : Ordering). T (is_lt r && below_all R k (keyed pair ys))) (sym here) (lower k l ys e (second (is_lt (R l (key y))) _ h))

    pub find_missed : (k : K) (ys : List A) → Rise R pair ys → StartsAbove R pair k ys → find R k (keyed pair ys) ≡ None
    find_missed k [] s a = refl
    find_missed k (y ∷ ys) s a =
        ap (λ (r : Ordering). cond (is_eq r) (Some (val y)) (find R k (keyed pair ys))) (below y k a)
        ∙ find_below k ys (lower k (key y) ys (below y k a) (first _ _ s))

    -- ---- the maps

    pub get_of : (k : K) (xs : List A) → get (map_of R pair xs) k ≡ find R k (keyed pair xs)
    get_of k xs = get-from_entries o (keyed pair xs) k

    pub entries_of : (xs : List A) → Rise R pair xs → entries (map_of R pair xs) ≡ keyed pair xs
    entries_of xs s = entries-from_entries o (keyed pair xs) s

    -- The values of the map that pass a test are the elements that pass it, in order.
    pub values_of_kept : (p : K × X → Bool) (xs : List A) → Rise R pair xs → map (λ e. e.1) (filter p (entries (map_of R pair xs))) ≡ map val (filter (λ x. p (pair x)) xs)
    values_of_kept p xs s = ap (λ (es : List (K × X)). map (λ e. e.1) (filter p es)) (entries_of xs s) ∙ kept_values p xs

    pub Rise_put : (v : A) (xs zs : List A) → Rise R pair xs → keyed pair zs ≡ put R (key v) (val v) (keyed pair xs) → Rise R pair zs
    Rise_put v xs zs s e = subst (λ (es : List (K × X)). T (is_sorted R es)) (sym e) (is_sorted-put R o (key v) (val v) (keyed pair xs) s)

    pub map_put : (v : A) (xs zs : List A) → Rise R pair xs → keyed pair zs ≡ put R (key v) (val v) (keyed pair xs) → map_of R pair zs ≡ insert (map_of R pair xs) (key v) (val v)
    map_put v xs zs s e = same_entries_map (map_of R pair zs) (insert (map_of R pair xs) (key v) (val v)) (
        entries_of zs (Rise_put v xs zs s e) ∙ (e ∙ (ap (put R (key v) (val v)) (sym (entries_of xs s)) ∙ sym (entries-insert o (map_of R pair xs) (key v) (val v)))))

pub map_of_none : {A K X : Type 0} (R : K → K → Ordering) (pair : A → K × X) → map_of R pair [] ≡ empty
map_of_none R pair = refl
