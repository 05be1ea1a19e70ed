-- Lemmas about groups of rows under ascending numbers, each with its entry in a map.
use Rattle.std.proofs.Common.{◌≡◌, ◌⊎◌, inl, inr, ◌≤◌, ℤ, List, [], ◌∷◌, ◌++◌, map, filter, flat_map, length, not, Bool, true, false, cond, refl, sym, ap, subst, ◌∙◌, arith, int_eq, is_eq, Ordering, Less, Equal, Greater}
use Rattle.std.specs.Prelude.{IsPermutation, IsSome, Some}
use Rattle.std.specs.List.{AllByRecursion}
use Rattle.std.specs.Ordering.{int_cmp, eq_by_cmp, match_ordering, ordering_reverse}
use Rattle.std.specs.Cmp.{IsTotalOrder}
use Rattle.std.specs.FinMap.{FinMap, IsAntisymmetric, entries, get, insert, remove}
use Rattle.std.proofs.lemmas.Bool.{cases_Bool}
use Rattle.std.proofs.lemmas.List.{length-map}
use Rattle.std.proofs.lemmas.Cmp.{int_cmp_total, tied_itself}
use Rattle.std.proofs.lemmas.List.Sorted.{IsPermutation-append_comm, IsPermutation-append_right, IsPermutation-cons, IsPermutation-map, IsPermutation-sym, IsPermutation-trans, length_permutation}
use Rattle.sqlite_keyed.proofs.ListLemmas.{all_map, filter-map, filter_all, IsPermutation-filter, IsPermutation-flat_map}
use Rattle.sqlite_keyed.proofs.KeyedLemmas.{same_int}
use Rattle.sqlite_rules.specs.Lists.{Has}
use Rattle.sqlite_trees.specs.Tree.{IsAscending}
use Rattle.space_rows.proofs.Chunks.{Borne}
use Rattle.space_sql_write.proofs.Lists.{all_from, alone, equal_of, filter_joined, filter_on, has_filtered, mapped_from, moved}
use Rattle.space_sql_write.proofs.Entries.{entry_there, few_hits, hits, inserted, none_removed, removed, some_of}
use Rattle.space_sql_write.proofs.Joining.{put_by, put_permutes}

-- Returns true if the group has another number.
abbrev pub is_other : {G : Type 0} → (G → ℤ) → ℤ → G → Bool
is_other number num g = not (int_eq (number g) num)

module _ {G R : Type 0} (number : G → ℤ) (key : R → ℤ) (f : G → List R) (num : ℤ) where
  own_left : (m : ℤ) (rs : List R) → AllByRecursion (λ r. key r ≡ m) rs → filter (λ r. not (int_eq (key r) num)) rs ≡ cond (not (int_eq m num)) rs []
  own_left m [] all = go (not (int_eq m num))
    where
      go : (b : Bool) → ◌≡◌ {A = List R} [] (cond b [] [])
      go true = refl
      go false = refl
  own_left m (r ∷ rs) all =
      ap (λ k. cond (not (int_eq k num)) (r ∷ filter (λ r. not (int_eq (key r) num)) rs) (filter (λ r. not (int_eq (key r) num)) rs)) all.0
      ∙ (ap (λ l. cond (not (int_eq m num)) (r ∷ l) l) (own_left m rs all.1)
      ∙ elim (not (int_eq m num)) as (λ b. cond b (r ∷ cond b rs []) (cond b rs []) ≡ cond b (r ∷ rs) []) [ true ↦ refl | false ↦ refl ])

  -- The rows without the number are those of the other groups.
  pub rows_of_others : (gs : List G) → Borne key number f gs → flat_map f (filter (is_other number num) gs) ≡ filter (λ r. not (int_eq (key r) num)) (flat_map f gs)
  rows_of_others [] all = refl
  rows_of_others (g ∷ gs) all = sym (
      filter_joined (λ r. not (int_eq (key r) num)) (f g) (flat_map f gs)
      ∙ (ap (λ l. l ++ filter (λ r. not (int_eq (key r) num)) (flat_map f gs)) (own_left (number g) (f g) all.0)
      ∙ (ap (λ l. cond (is_other number num g) (f g) [] ++ l) (sym (rows_of_others gs all.1))
      ∙ split (is_other number num g))))
    where
      split : (b : Bool) → cond b (f g) [] ++ flat_map f (filter (is_other number num) gs) ≡ flat_map f (cond b (g ∷ filter (is_other number num) gs) (filter (is_other number num) gs))
      split true = refl
      split false = refl

  pub others_left : (gs : List G) (rs : List R) → Borne key number f gs → IsPermutation (flat_map f gs) rs → IsPermutation (flat_map f (filter (is_other number num) gs)) (filter (λ r. not (int_eq (key r) num)) rs)
  others_left gs rs borne same = subst (λ k. IsPermutation k (filter (λ r. not (int_eq (key r) num)) rs)) (sym (rows_of_others gs borne)) (IsPermutation-filter (λ r. not (int_eq (key r) num)) _ _ same)

-- The same, for one row per group.
pub heads_left : {G R : Type 0} (key : R → ℤ) (row : G → R) (num : ℤ) (gs : List G) (rs : List R) → IsPermutation (map row gs) rs → IsPermutation (map row (filter (is_other (λ g. key (row g)) num) gs)) (filter (λ r. not (int_eq (key r) num)) rs)
heads_left key row num gs rs same = subst (λ k. IsPermutation k (filter (λ r. not (int_eq (key r) num)) rs)) (filter-map (λ r. not (int_eq (key r) num)) row gs) (IsPermutation-filter (λ r. not (int_eq (key r) num)) _ _ same)

-- ---- adding a group

module _ {G : Type 0} (number : G → ℤ) (new : G) (gs : List G) where
  abbrev pub placed : List G
  placed = put_by number new gs

  pub turned : IsPermutation placed (new ∷ gs)
  turned = IsPermutation-sym _ _ (put_permutes number new gs)

  pub beside : {R : Type 0} (f : G → List R) (rs : List R) → IsPermutation (flat_map f gs) rs → IsPermutation (flat_map f placed) (rs ++ f new)
  beside f rs same = IsPermutation-trans _ _ _ (IsPermutation-flat_map f _ _ turned) (IsPermutation-trans _ _ _ (IsPermutation-append_right (f new) _ _ same) (IsPermutation-append_comm (f new) rs))

  pub head_beside : {R : Type 0} (row : G → R) (rs : List R) → IsPermutation (map row gs) rs → IsPermutation (map row placed) (rs ++ row new ∷ [])
  head_beside row rs same = IsPermutation-trans _ _ _ (IsPermutation-map row _ _ turned) (IsPermutation-trans _ _ _ (IsPermutation-cons (row new) _ _ same) (IsPermutation-append_comm (row new ∷ []) rs))

  pub has_placed : (g : G) → Has (new ∷ gs) g → Has placed g
  has_placed = put gs
    where
      put : (hs : List G) (g : G) → Has (new ∷ hs) g → Has (put_by number new hs) g
      put [] g h = h
      put (y ∷ hs) g h = go (int_cmp (number y) (number new)) h (put hs g)
        where
          go : (c : Ordering) → Has (new ∷ y ∷ hs) g → (Has (new ∷ hs) g → Has (put_by number new hs) g) → Has (match_ordering c (y ∷ put_by number new hs) (new ∷ y ∷ hs) (new ∷ y ∷ hs)) g
          go Less (inl e) more = inr (more (inl e))
          go Less (inr (inl e)) more = inl e
          go Less (inr (inr k)) more = inr (more (inr k))
          go Equal h more = h
          go Greater h more = h

-- ---- entries

module _ {G K X : Type 0} (number : G → ℤ) (pair : G → K × X) (R : K → K → Ordering) (o : IsTotalOrder R) (exact : IsAntisymmetric R) where
  abbrev pub IsLess : G → G → Type 0
  IsLess g h = int_cmp (number g) (number h) ≡ Less

  -- Holds if one of the groups has the number and the key.
  abbrev pub IsAt : ℤ → K → List G → Type 0
  IsAt num k gs = (g : G) × Has gs g × (number g ≡ num) × ((pair g).0 ≡ k)

  after : (g : G) (gs : List G) → AllByRecursion (IsLess g) gs → (h : G) → Has gs h → number g ≡ number h → ⊥
  after g [] all h there e = there
  after g (x ∷ gs) all h (inl same) e = let less = all.0 in let tie = tied_itself int_cmp_total (number g) in absurd (let both = sym less ∙ (ap (int_cmp (number g)) (ap number (sym same) ∙ sym e) ∙ tie) in cc)
  after g (x ∷ gs) all h (inr k) e = after g gs all.1 h k e

  -- No two groups have the same number.
  pub one_of_number : (gs : List G) → IsAscending IsLess gs → (g h : G) → Has gs g → Has gs h → number g ≡ number h → g ≡ h
  one_of_number [] up g h a b e = absurd a
  one_of_number (x ∷ gs) up g h (inl p) (inl q) e = p ∙ sym q
  one_of_number (x ∷ gs) up g h (inl p) (inr k) e = absurd (after x gs up.0 h k (ap number (sym p) ∙ e))
  one_of_number (x ∷ gs) up g h (inr k) (inl q) e = absurd (after x gs up.0 g k (ap number (sym q) ∙ sym e))
  one_of_number (x ∷ gs) up g h (inr k) (inr m) e = one_of_number gs up.1 g h k m e

  abbrev pub hits_key : K → G → Bool
  hits_key k g = eq_by_cmp R k (pair g).0

  -- At most one group has a key.
  pub few : (gs : List G) (m : FinMap R X) (k : K) → IsPermutation (map pair gs) (entries m) → length (filter (hits_key k) gs) ≤ 1
  few gs m k kept =
      let one = few_hits R o exact k m in
      let moved = length_permutation _ _ (IsPermutation-filter (hits R o exact k) _ _ kept) in
      let mapped = ap length (filter-map (hits R o exact k) pair gs) in
      let short = length-map (filter (hits_key k) gs) pair in
      omega (arith, one, moved, mapped, short)

  module _ (gs : List G) (up : IsAscending IsLess gs) (m : FinMap R X) (kept : IsPermutation (map pair gs) (entries m)) (num : ℤ) (k : K) (it : IsAt num k gs) where
    its_own : hits_key k it.0 ≡ true
    its_own = ap (λ q. eq_by_cmp R k q) it.3 ∙ ap is_eq (tied_itself o k)

    -- The group with the key is the group with the number.
    agrees : (g : G) → Has gs g → hits_key k g ≡ int_eq (number g) num
    agrees g there = go (cases_Bool (int_eq (number g) num)) (cases_Bool (hits_key k g))
      where
        go : (int_eq (number g) num ≡ true) ⊎ (int_eq (number g) num ≡ false) → (hits_key k g ≡ true) ⊎ (hits_key k g ≡ false) → hits_key k g ≡ int_eq (number g) num
        go (inl same) found = let one = one_of_number gs up g it.0 there it.1 (same_int (number g) num same ∙ sym it.2) in ap (hits_key k) one ∙ (its_own ∙ sym same)
        go (inr other) (inr none) = none ∙ sym other
        go (inr other) (inl found) =
            let one = alone (filter (hits_key k) gs) g it.0 (few gs m k kept) (has_filtered (hits_key k) gs g there found) (has_filtered (hits_key k) gs it.0 it.1 its_own) in
            absurd (let same = ap number one ∙ it.2 in let tie = ap (λ n. int_eq n num) same ∙ ap is_eq (tied_itself int_cmp_total num) in let no' = sym tie ∙ other in cc)

    -- The groups with other numbers are those with other keys.
    pub kept_left : IsPermutation (map pair (filter (is_other number num) gs)) (entries (remove m k))
    kept_left =
        let same = filter-map (λ e. not (hits R o exact k e)) pair gs ∙ ap (map pair) (filter_on (λ g. not (hits_key k g)) (is_other number num) gs (λ g there. ap not (agrees g there))) in
        subst (IsPermutation (map pair (filter (is_other number num) gs))) (sym (removed R o exact m k)) (subst (λ l. IsPermutation l (filter (λ e. not (hits R o exact k e)) (entries m))) same (IsPermutation-filter (λ e. not (hits R o exact k e)) _ _ kept))

  module _ (gs : List G) (m : FinMap R X) (kept : IsPermutation (map pair gs) (entries m)) (k : K) (none : (num : ℤ) → ¬ IsAt num k gs) where
    other_keys : AllByRecursion (λ g. not (hits_key k g) ≡ true) gs
    other_keys = all_from _ gs (λ g there. elim (cases_Bool (hits_key k g)) [
      | inl same ↦ absurd (none (number g) (g, there, refl, sym (exact k (pair g).0 (equal_of (R k (pair g).0) same))))
      | inr other ↦ ap not other
    ])

    -- If no group has the key, all groups have other keys.
    pub kept_stand : IsPermutation (map pair gs) (entries (remove m k))
    kept_stand =
        let same = filter_all (λ e. not (hits R o exact k e)) (map pair gs) (all_map (λ e. not (hits R o exact k e) ≡ true) pair gs other_keys) in
        subst (IsPermutation (map pair gs)) (sym (removed R o exact m k)) (subst (λ l. IsPermutation l (filter (λ e. not (hits R o exact k e)) (entries m))) same (IsPermutation-filter (λ e. not (hits R o exact k e)) _ _ kept))

  -- A new group is added to those with other keys.
  pub kept_joined : (new : G) (gs : List G) (m : FinMap R X) → IsPermutation (map pair gs) (entries (remove m (pair new).0)) → IsPermutation (map pair (put_by number new gs)) (entries (insert m (pair new).0 (pair new).1))
  kept_joined new gs m kept =
      IsPermutation-trans _ _ _ (IsPermutation-map pair _ _ (turned number new gs)) (IsPermutation-trans _ _ _ (IsPermutation-cons (pair new) _ _ (subst (IsPermutation (map pair gs)) (removed R o exact m (pair new).0) kept)) (inserted R o exact m (pair new).0 (pair new).1))

  -- Only one group has a number.
  none_of_past : (m : ℤ) (gs : List G) → AllByRecursion (λ g. int_cmp m (number g) ≡ Less) gs → filter (λ g. int_eq (number g) m) gs ≡ []
  none_of_past m [] all = refl
  none_of_past m (g ∷ gs) all = rw (turned_less m (number g) all.0) (none_of_past m gs all.1)
    where
      turned_less : (m n : ℤ) → int_cmp m n ≡ Less → int_eq n m ≡ false
      turned_less m n e = ap is_eq (int_cmp_total.antisymm n m ∙ ap ordering_reverse e)

  pub alone_of_number : (gs : List G) → IsAscending IsLess gs → (g : G) → Has gs g → filter (λ h. int_eq (number h) (number g)) gs ≡ g ∷ []
  alone_of_number [] up g there = absurd there
  alone_of_number (x ∷ gs) up g (inl e) = subst (λ y. filter (λ h. int_eq (number h) (number y)) (x ∷ gs) ≡ y ∷ []) (sym e) (rw (ap is_eq (tied_itself int_cmp_total (number x))) (ap (λ l. x ∷ l) (none_of_past (number x) gs up.0)))
  alone_of_number (x ∷ gs) up g (inr k) = rw (other x gs up.0 g k) (alone_of_number gs up.1 g k)
    where
      other : (x : G) (hs : List G) → AllByRecursion (IsLess x) hs → (h : G) → Has hs h → int_eq (number x) (number h) ≡ false
      other x [] all h there = absurd there
      other x (y ∷ hs) all h (inl e) = subst (λ z. int_eq (number x) (number z) ≡ false) (sym e) (ap is_eq all.0)
      other x (y ∷ hs) all h (inr m) = other x hs all.1 h m

  -- ---- groups that keep their number

  -- Each entry of the map has a group.
  pub group_there : (gs : List G) (m : FinMap R X) → IsPermutation (map pair gs) (entries m) → (k : K) (x : X) → get m k ≡ Some x → (g : G) × Has gs g × (pair g ≡ (k, x))
  group_there gs m kept k x found =
      let it = mapped_from pair gs (k, x) (moved (map pair gs) (entries m) (k, x) kept (entry_there R o exact m k x found)) in
      (it.0, it.1, sym it.2)

  module _ (gs : List G) (up : IsAscending IsLess gs) (num : ℤ) (k : K) (it : IsAt num k gs) where
    same_key : (l : K) → IsAt num l gs → l ≡ k
    same_key l at = let one = one_of_number gs up at.0 it.0 at.1 it.1 (at.2 ∙ sym it.2) in sym at.3 ∙ (ap (λ g. (pair g).0) one ∙ it.3)

    pub others_at : (n : ℤ) (l : K) → int_eq n num ≡ false → IsAt n l gs → IsAt n l (filter (is_other number num) gs)
    others_at n l other at = (at.0, has_filtered (is_other number num) gs at.0 at.1 (ap (λ m. not (int_eq m num)) at.2 ∙ ap not other), at.2, at.3)

    -- The remaining groups keep their numbers.
    pub left_at : (m : FinMap R X) (n : ℤ) (l : K) → IsAt n l gs → IsSome (get (remove m k) l) → IsAt n l (filter (is_other number num) gs)
    left_at m n l at there = elim (cases_Bool (int_eq n num)) [
      | inl same ↦
          let key = same_key l (subst (λ i. IsAt i l gs) (same_int n num same) at) in
          let some = some_of (get (remove m k) l) there in
          absurd (let none = sym (none_removed R o exact m k) ∙ (ap (get (remove m k)) (sym key) ∙ some.1) in cc)
      | inr other ↦ others_at n l other at
    ]

    -- If a group is replaced under its number, all groups keep their numbers.
    pub replaced_at : (new : G) → number new ≡ num → (pair new).0 ≡ k → (n : ℤ) (l : K) → IsAt n l gs → IsAt n l (placed number new (filter (is_other number num) gs))
    replaced_at new own key n l at = elim (cases_Bool (int_eq n num)) [
      | inl same ↦
          let number_is = same_int n num same in
          (new, has_placed number new (filter (is_other number num) gs) new (inl refl), own ∙ sym number_is, key ∙ sym (same_key l (subst (λ i. IsAt i l gs) number_is at)))
      | inr other ↦ let it = others_at n l other at in (it.0, has_placed number new (filter (is_other number num) gs) it.0 (inr it.1), it.2, it.3)
    ]

  -- If a group is added, all groups keep their numbers.
  pub placed_at : (new : G) (gs : List G) (n : ℤ) (l : K) → IsAt n l gs → IsAt n l (placed number new gs)
  placed_at new gs n l at = (at.0, has_placed number new gs at.0 (inr at.1), at.2, at.3)
