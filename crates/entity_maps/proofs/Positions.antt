-- Sorted lists, described by the index at which a search ends.
use Rattle.std.specs.Prelude.{◌≡◌, ℕ, suc, ◌<◌, ◌≤◌, ◌+◌, true, false, List, [], ◌∷◌, ◌++◌, length, take, drop, Option, Some, None, Result, Ok, Err, IfOk, IfErr, OnOk, OnErr, IsSome, IsNone}
use Rattle.std.specs.Ordering.{is_lt}
use Rattle.std.specs.declared.cmp.Ordering.{Ordering}
use Rattle.std.specs.declared.cmp.Ordering.TheVariants.{Less, Equal, Greater}
use Rattle.std.specs.Cmp.{IsTotalOrder}
use Rattle.std.specs.FinMap.{IsAntisymmetric, find, get, insert}
use Rattle.std.specs.FinMap.Entries.{put}
use Rattle.std.specs.List.Sorted.{IsSortedBy, IsPartitionPoint, IsBinarySearchResult, IsSearchInRange}
use Rattle.std.proofs.Common.{arith, sym, ap, ◌∙◌, subst, get_or, set}
use Rattle.std.proofs.lemmas.List.{get_or_default, set_split, take-append-drop}
use Rattle.std.proofs.lemmas.List.Sorted.{searchable_from_sorted}
use Rattle.std.proofs.lemmas.Option.{get_or_from_slice_get, slice_get-get_or}
use Rattle.std.proofs.Math.Seq.{drop-cons}
use Rattle.entity_maps.specs.Sorted.{keyed, Rise, map_of, Hit, Gap}
use Rattle.entity_maps.proofs.Maps.{below_from, starts_from, below_hit, neighbours, Rise_rest, Rise_put, find_past, find_here, find_missed, put_over, put_between, get_of, map_put}

if_ok : {T E : Type 0} (r : Result T E) (P Q : T → Type 0) → ((x : T) → P x → Q x) → IfOk r P → IfOk r Q
if_ok (Ok x) P Q f h = f x h
if_ok (Err e) P Q f h = tt

split_here : {A : Type 0} (xs : List A) (i : ℕ) (e : A) → i < length xs → e ≡ get_or xs i e → xs ≡ take i xs ++ e ∷ drop (suc i) xs
split_here {A} xs i e h is = sym (take-append-drop i xs) ∙ ap (λ (x : List A). take i xs ++ x) (drop-cons xs i e h ∙ ap (λ (x : A). x ∷ drop (suc i) xs) (sym is))

module _ {A K X : Type 0} (R : K → K → Ordering) (pair : A → K × X) where
  abbrev key : A → K
  key x = (pair x).0

  abbrev val : A → X
  val x = (pair x).1

  pub read_hit : (xs : List A) (k : K) (i : ℕ) (h : Hit R pair xs k i) (d : A) → d ≡ get_or xs i d → d ≡ h.element
  read_hit xs k i h d is = is ∙ get_or_from_slice_get xs i h.element d h.at

  module _ (o : IsTotalOrder R) where
    -- ---- the result of a search

    hit_from : (xs : List A) (k : K) (i : ℕ) → Rise R pair xs → i < length xs → ((d : A) → R (key (get_or xs i d)) k ≡ Equal) → Hit R pair xs k i
    hit_from [] k i s h p = absurd (omega arith)
    hit_from (x ∷ xs) k i s h p =
        let all : List A = x ∷ xs in
        let e = get_or all i x in
        let is : e ≡ get_or all i e = get_or_default all i x e h in
        let split = split_here all i e h is in
        record {
          within = h;
          element = e;
          at = slice_get-get_or all i x h;
          split = split;
          below = below_hit R pair o k (take i all) (drop (suc i) all) e (subst (Rise R pair) split s) (p x);
          level = p x;
        }

    sorted_by : (xs : List A) → Rise R pair xs → IsSortedBy (λ a b. is_lt (R (key a) (key b))) xs
    sorted_by xs s = λ i d low h.
        let e : suc i ≡ i + 1 = omega arith in
        subst (λ (n : ℕ). is_lt (R (key (get_or xs n d)) (key (get_or xs i d))) ≡ false) e (neighbours R pair o xs i d (omega arith) s)

    gap_from : (xs : List A) (k : K) (i : ℕ) → i ≤ length xs → IsPartitionPoint (λ y. R (key y) k ≡ Less) (λ y. R (key y) k ≡ Greater) xs i → Gap R pair xs k i
    gap_from xs k i h p = record {
      within = h;
      below = below_from R pair k xs i h (λ j d l. p.0 j d (omega arith) l);
      above = starts_from R pair k xs i (λ d l. p.1 i d (omega arith) l);
    }

    pub place_hit : (xs : List A) (k : K) (r : Result ℕ ℕ) → Rise R pair xs → IsSearchInRange r (length xs) → IsBinarySearchResult (λ e. R (key e) k) xs r → IfOk r (Hit R pair xs k)
    place_hit xs k (Ok i) s b p = hit_from xs k i s b p
    place_hit xs k (Err i) s b p = tt

    pub place_gap : (xs : List A) (k : K) (r : Result ℕ ℕ) → Rise R pair xs → IsSearchInRange r (length xs) → IsBinarySearchResult (λ e. R (key e) k) xs r → IfErr r (Gap R pair xs k)
    place_gap xs k (Ok i) s b p = tt
    place_gap xs k (Err i) s b p = gap_from xs k i b (p (searchable_from_sorted o (λ (e : A). key e) xs k (sorted_by xs s)))

    -- ---- lookups

    pub found_hit : (xs : List A) (k : K) (i : ℕ) (h : Hit R pair xs k i) → Some (val h.element) ≡ find R k (keyed pair xs)
    found_hit xs k i h = sym (ap (λ (x : List A). find R k (keyed pair x)) h.split
        ∙ (find_past R pair o k (take i xs) (h.element ∷ drop (suc i) xs) h.below
        ∙ find_here R pair o k h.element (drop (suc i) xs) h.level))

    pub found_value : (xs : List A) (k : K) (i : ℕ) → Hit R pair xs k i → (v : A) → v ≡ get_or xs i v → Some (val v) ≡ find R k (keyed pair xs)
    found_value xs k i h v is = ap (λ (e : A). Some (val e)) (read_hit xs k i h v is) ∙ found_hit xs k i h

    pub found_gap : (xs : List A) (k : K) (i : ℕ) → Gap R pair xs k i → Rise R pair xs → None ≡ find R k (keyed pair xs)
    found_gap xs k i g s =
        let parts : xs ≡ take i xs ++ drop i xs = sym (take-append-drop i xs) in
        sym (ap (λ (x : List A). find R k (keyed pair x)) parts
        ∙ (find_past R pair o k (take i xs) (drop i xs) g.below
        ∙ find_missed R pair o k (drop i xs) (Rise_rest R pair (take i xs) (drop i xs) (subst (Rise R pair) parts s)) g.above))

    pub not_none : (xs : List A) (k : K) (i : ℕ) → Hit R pair xs k i → IsNone (find R k (keyed pair xs)) → ⊥
    not_none xs k i h none = let bad : true ≡ false = subst IsNone (sym (found_hit xs k i h)) none in cc

    pub not_some : (xs : List A) (k : K) (i : ℕ) → Gap R pair xs k i → Rise R pair xs → IsSome (find R k (keyed pair xs)) → ⊥
    not_some xs k i g s some = let bad : false ≡ true = subst IsSome (sym (found_gap xs k i g s)) some in cc

    -- What holds for a lookup in the map holds for a search in the list.
    pub get_says : (P : Option X → Type 0) (d xs : List A) (k : K) → d ≡ xs → P (get (map_of R pair xs) k) → P (find R k (keyed pair d))
    get_says P d xs k e h = subst P (get_of R pair o k xs ∙ ap (λ (x : List A). find R k (keyed pair x)) (sym e)) h

    pub get_answer : {E : Type 0} (r : Result (Option X) E) (d xs : List A) (k : K) → d ≡ xs → Rise R pair xs
        → IfOk r (λ f. f ≡ find R k (keyed pair d)) → IfOk r (λ f. f ≡ get (map_of R pair xs) k)
    get_answer r d xs k e s h = if_ok r (λ f. f ≡ find R k (keyed pair d)) (λ f. f ≡ get (map_of R pair xs) k)
        (λ f g. g ∙ (ap (λ (x : List A). find R k (keyed pair x)) e ∙ sym (get_of R pair o k xs))) h

    -- ---- puts

    pub put_gap : (xs : List A) (v : A) (i : ℕ) → Gap R pair xs (key v) i → keyed pair (take i xs ++ v ∷ drop i xs) ≡ put R (key v) (val v) (keyed pair xs)
    put_gap xs v i g =
        put_between R pair o v (take i xs) (drop i xs) g.below g.above
        ∙ ap (λ (x : List A). put R (key v) (val v) (keyed pair x)) (take-append-drop i xs)

    pub put_order : {T E : Type 0} (r : Result T E) (xs zs : List A) (v : A) → Rise R pair xs
        → OnOk r (keyed pair zs ≡ put R (key v) (val v) (keyed pair xs)) → OnErr r (zs ≡ xs) → Rise R pair zs
    put_order (Ok x) xs zs v s ok err = Rise_put R pair o v xs zs s ok
    put_order (Err e) xs zs v s ok err = subst (Rise R pair) (sym err) s

    pub put_map : {T E : Type 0} (r : Result T E) (xs zs old : List A) (v : A) → xs ≡ old → Rise R pair xs
        → OnOk r (keyed pair zs ≡ put R (key v) (val v) (keyed pair xs)) → OnOk r (map_of R pair zs ≡ insert (map_of R pair old) (key v) (val v))
    put_map (Ok x) xs zs old v e s ok = map_put R pair o v xs zs s ok ∙ ap (λ (ys : List A). insert (map_of R pair ys) (key v) (val v)) e
    put_map (Err x) xs zs old v e s ok = tt

    module _ (exact : IsAntisymmetric R) where
      pub put_hit : (xs : List A) (v : A) (i : ℕ) → Hit R pair xs (key v) i → keyed pair (set xs i v) ≡ put R (key v) (val v) (keyed pair xs)
      put_hit xs v i h =
          ap (keyed pair) (set_split xs i v h.within)
          ∙ (put_over R pair o exact v h.element (take i xs) (drop (suc i) xs) h.below h.level
          ∙ ap (λ (x : List A). put R (key v) (val v) (keyed pair x)) (sym h.split))
