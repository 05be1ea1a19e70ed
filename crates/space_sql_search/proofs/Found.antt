-- Proofs about the items of groups of rows, by the numbers of the rows, and their map.
use Rattle.std.proofs.Common.{◌≡◌, ◌⊎◌, inl, inr, ℤ, List, [], ◌∷◌, ◌++◌, map, Bool, true, false, cond, Some, refl, sym, ap, subst, ◌∙◌, is_eq, Equal, Ordering}
use Rattle.std.specs.Prelude.{IsPermutation}
use Rattle.std.specs.Ordering.{eq_by_cmp}
use Rattle.std.specs.Cmp.{Equal-is, IsTotalOrder}
use Rattle.std.specs.FinMap.{FinMap, IsAntisymmetric, get, insert, empty, entries, entries_sorted, get-entries, get-empty, get-insert, find}
use Rattle.std.proofs.lemmas.Cmp.{tied_itself}
use Rattle.std.proofs.lemmas.List.Sorted.{IsPermutation-sym}
use Rattle.sqlite_rules.specs.Lists.{Has}
use Rattle.sqlite_rules.proofs.ListLemmas.{all_has, has_either}
use Rattle.sqlite_trees.specs.Tree.{IsAscending}
use Rattle.space_sql_schema.proofs.OneAirspace.{EntryLess, entries_rise}
use Rattle.space_sql_search.specs.Candidates.{IsPart, Spelt, HoldsNumbered, HoldsNear}
use Rattle.space_sql_search.proofs.Lists.{has_map, map_has, has_moved}

one_more : (num : ℤ) (numbers : List ℤ) (n : ℤ) → Has (numbers ++ num ∷ []) n → Has numbers n ⊎ (n ≡ num)
one_more num numbers n h = elim (has_either numbers (num ∷ []) n h) [ inl before ↦ inl before | inr last ↦ elim last [ inl same ↦ inr same | inr none ↦ absurd none ] ]

-- ---- keys

module _ {K : Type 0} (R : K → K → Ordering) (total : IsTotalOrder R) (exact : IsAntisymmetric R) where
  one : (k l : K) → eq_by_cmp R k l ≡ true → k ≡ l
  one k l h = exact k l ((Equal-is (R k l)).0 h)

  tied : (k : K) → eq_by_cmp R k k ≡ true
  tied k = ap is_eq (tied_itself total k)

-- ---- entries

module _ {K X : Type 0} (R : K → K → Ordering) (total : IsTotalOrder R) (exact : IsAntisymmetric R) where
  find_has : (k : K) (x : X) (es : List (K × X)) → find R k es ≡ Some x → Has es (k, x)
  find_has k x [] h = absurd cc
  find_has k x (p ∷ es) h = go (eq_by_cmp R k p.0) refl h (find_has k x es)
    where
      go : (b : Bool) → eq_by_cmp R k p.0 ≡ b → cond b (Some p.1) (find R k es) ≡ Some x → (find R k es ≡ Some x → Has es (k, x)) → Has (p ∷ es) (k, x)
      go true t h more = let same : p.1 ≡ x = cc in inl (λ i. (one R total exact k p.0 t i, sym same i))
      go false t h more = inr (more h)

  has_find : (k : K) (x : X) (es : List (K × X)) → IsAscending (EntryLess R) es → Has es (k, x) → find R k es ≡ Some x
  has_find k x [] up h = absurd h
  has_find k x (p ∷ es) up (inl same) = subst (λ (q : K × X). cond (eq_by_cmp R k q.0) (Some q.1) (find R k es) ≡ Some x) same (ap (λ b. cond b (Some x) (find R k es)) (tied R total exact k))
  has_find k x (p ∷ es) up (inr h) = go (eq_by_cmp R k p.0) refl (has_find k x es up.1 h)
    where
      go : (b : Bool) → eq_by_cmp R k p.0 ≡ b → find R k es ≡ Some x → cond b (Some p.1) (find R k es) ≡ Some x
      go false t more = more
      go true t more =
          let below = all_has (EntryLess R p) es (k, x) up.0 h in
          let tie = subst (λ (l : K). R p.0 l ≡ Equal) (sym (one R total exact k p.0 t)) (tied_itself total p.0) in
          absurd (let both = sym below ∙ tie in cc)

  pub got_has : (m : FinMap R X) (k : K) (x : X) → get m k ≡ Some x → Has (entries m) (k, x)
  got_has m k x h = find_has k x (entries m) (sym (get-entries m k) ∙ h)

  pub has_got : (m : FinMap R X) (k : K) (x : X) → Has (entries m) (k, x) → get m k ≡ Some x
  has_got m k x h = get-entries m k ∙ has_find k x (entries m) (entries_rise R (entries m) (entries_sorted m)) h

  -- ---- the map of the items of groups, each under its key

  module _ {G : Type 0} (of : Spelt G K X R) (kept : IsPermutation (map of.pair of.groups) (entries of.all)) where
    abbrev Holds : List ℤ → FinMap R X → Type 0
    Holds numbers found = HoldsNumbered of numbers found

    group_got : (g : G) → Has of.groups g → get of.all (of.pair g).0 ≡ Some (of.pair g).1
    group_got g there = has_got of.all (of.pair g).0 (of.pair g).1 (has_moved (map of.pair of.groups) (entries of.all) (of.pair g) kept (map_has of.pair of.groups g there))

    got_group : (k : K) (x : X) → get of.all k ≡ Some x → (g : G) × Has of.groups g × ((k, x) ≡ of.pair g)
    got_group k x h = has_map of.pair of.groups (k, x) (has_moved (entries of.all) (map of.pair of.groups) (k, x) (IsPermutation-sym _ _ kept) (got_has of.all k x h))

    -- If the numbers include all items that pass a test, each of these items is found.
    pub near_found : (is_near : X → Bool) (numbers : List ℤ) (found : FinMap R X) → ((g : G) → Has of.groups g → is_near (of.pair g).1 ≡ true → Has numbers (of.number g)) → Holds numbers found → HoldsNear is_near of.all found
    near_found is_near numbers found listed h = record {
      part = h.part;
      whole = λ k x is near.
          let g = got_group k x is in
          let number = listed g.0 g.1 (subst (λ (p : K × X). is_near p.1 ≡ true) g.2 near) in
          ap (λ (p : K × X). get found p.0) g.2 ∙ (h.whole g.0 g.1 number ∙ ap (λ (p : K × X). Some p.1) (sym g.2));
    }

    -- ---- one number after another

    pub none_numbered : (found : FinMap R X) → found ≡ empty → Holds [] found
    none_numbered found is = record {
      part = λ k x h. absurd (let none = sym (ap (λ (m : FinMap R X). get m k) is ∙ get-empty R k) ∙ h in cc);
      whole = λ g there none. absurd none;
    }

    pub adds_none : (n : ℤ) (numbers : List ℤ) (m : FinMap R X) → ((g : G) → Has of.groups g → of.number g ≡ n → ⊥) → Holds numbers m → Holds (numbers ++ n ∷ []) m
    adds_none n numbers m none h = record {
      part = h.part;
      whole = λ g there k. go g there (one_more n numbers (of.number g) k);
    }
      where
        go : (g : G) → Has of.groups g → Has numbers (of.number g) ⊎ (of.number g ≡ n) → get m (of.pair g).0 ≡ Some (of.pair g).1
        go g there (inl before) = h.whole g there before
        go g there (inr same) = absurd (none g there same)

    pub adds_one : (n : ℤ) (numbers : List ℤ) (m m' : FinMap R X) (p : K × X) → m' ≡ insert m p.0 p.1 → ((g : G) → Has of.groups g → of.number g ≡ n → p ≡ of.pair g) → (g : G) × Has of.groups g × (of.pair g ≡ p) → Holds numbers m → Holds (numbers ++ n ∷ []) m'
    adds_one n numbers m m' p put own there h = record {
      part = part;
      whole = λ g there k. whole g there (one_more n numbers (of.number g) k);
    }
      where
        here : get of.all p.0 ≡ Some p.1
        here = subst (λ (q : K × X). get of.all q.0 ≡ Some q.1) there.2 (group_got there.0 there.1)

        got : (k : K) → get m' k ≡ cond (eq_by_cmp R k p.0) (Some p.1) (get m k)
        got k = ap (λ (y : FinMap R X). get y k) put ∙ get-insert total m p.0 p.1 k

        part : IsPart m' of.all
        part k y is = go (eq_by_cmp R k p.0) refl (sym (got k) ∙ is)
          where
            go : (b : Bool) → eq_by_cmp R k p.0 ≡ b → cond b (Some p.1) (get m k) ≡ Some y → get of.all k ≡ Some y
            go true t h' = let same = one R total exact k p.0 t in ap (get of.all) same ∙ (here ∙ h')
            go false t h' = h.part k y h'

        whole : (g : G) → Has of.groups g → Has numbers (of.number g) ⊎ (of.number g ≡ n) → get m' (of.pair g).0 ≡ Some (of.pair g).1
        whole g there (inr same) = subst (λ (q : K × X). get m' q.0 ≡ Some q.1) (own g there same) (got p.0 ∙ ap (λ b. cond b (Some p.1) (get m p.0)) (tied R total exact p.0))
        whole g there (inl before) = go (eq_by_cmp R (of.pair g).0 p.0) refl
          where
            go : (b : Bool) → eq_by_cmp R (of.pair g).0 p.0 ≡ b → get m' (of.pair g).0 ≡ Some (of.pair g).1
            go true t =
                let same = one R total exact (of.pair g).0 p.0 t in
                let found = got (of.pair g).0 ∙ ap (λ b. cond b (Some p.1) (get m (of.pair g).0)) t in
                found ∙ (sym here ∙ (ap (get of.all) (sym same) ∙ group_got g there))
            go false t = got (of.pair g).0 ∙ (ap (λ b. cond b (Some p.1) (get m (of.pair g).0)) t ∙ h.whole g there before)
