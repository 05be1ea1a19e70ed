-- Lemmas about maps and their entries.
use Rattle.std.proofs.Common.{◌≡◌, ◌≤◌, List, [], ◌∷◌, ◌++◌, filter, length, Bool, true, false, cond, Some, None, refl, sym, ap, subst, ◌∙◌, arith, Ordering, Less, Equal, Greater, length-append, is_eq}
use Rattle.std.specs.Prelude.{IsPermutation}
use Rattle.std.specs.List.{AllByRecursion}
use Rattle.std.specs.Ordering.{eq_by_cmp}
use Rattle.std.specs.Cmp.{IsTotalOrder}
use Rattle.std.specs.FinMap.{FinMap, get, insert, entries, entries_sorted, entries-insert, get-entries, find}
use Rattle.std.specs.FinMap.Entries.{put, by_order}
use Rattle.std.proofs.lemmas.Cmp.{tied_itself}
use Rattle.std.proofs.lemmas.List.Sorted.{IsPermutation-trans, IsPermutation-sym, IsPermutation-refl, IsPermutation-cons, IsPermutation-middle, IsPermutation-append_right, length_permutation}
use Rattle.sqlite_keyed.proofs.ListLemmas.{IsPermutation-filter, filter_none}
use Rattle.sqlite_trees.specs.Tree.{IsAscending}
use Rattle.space_sql_schema.proofs.OneAirspace.{entries_rise, EntryLess}

module _ {K X : Type 0} (R : K → K → Ordering) (o : IsTotalOrder R) where
  abbrev pub hits : K → K × X → Bool
  hits k e = eq_by_cmp R k e.0

  pub below_misses : (k l : K) (es : List (K × X)) → R k l ≡ Equal → AllByRecursion (λ (e : K × X). R l e.0 ≡ Less) es → AllByRecursion (λ e. hits k e ≡ false) es
  below_misses k l [] e all = tt
  below_misses k l (f ∷ es) e all = (ap is_eq (o.congr k l f.0 e ∙ all.0), below_misses k l es e all.1)

  -- At most one of ascending entries has a key.
  pub one_hit : (k : K) (es : List (K × X)) → IsAscending (EntryLess R) es → length (filter (hits k) es) ≤ 1
  one_hit k [] up = omega arith
  one_hit k (e ∷ es) up = go (R k e.0) refl (one_hit k es up.1)
    where
      go : (c : Ordering) → R k e.0 ≡ c → length (filter (hits k) es) ≤ 1 → length (cond (is_eq c) (e ∷ filter (hits k) es) (filter (hits k) es)) ≤ 1
      go Less p more = more
      go Greater p more = more
      go Equal p more = let none = ap length (filter_none (hits k) es (below_misses k e.0 es p up.0)) in omega (arith, none)

  unfound : (k : K) (es : List (K × X)) → length (filter (hits k) es) ≡ 0 → find R k es ≡ None
  unfound k [] h = refl
  unfound k (e ∷ es) h = go (is_eq (R k e.0)) refl h (unfound k es)
    where
      go : (b : Bool) → is_eq (R k e.0) ≡ b → length (cond b (e ∷ filter (hits k) es) (filter (hits k) es)) ≡ 0 → (length (filter (hits k) es) ≡ 0 → find R k es ≡ None) → cond b (Some e.1) (find R k es) ≡ None
      go true p h more = absurd (omega (arith, h))
      go false p h more = more h

  -- An entry beside some entries of a map has a key that none of them has.
  pub new_key : (m m' : FinMap R X) (p : K × X) (ps : List (K × X)) → IsPermutation (p ∷ (ps ++ entries m)) (entries m') → get m p.0 ≡ None
  new_key m m' p ps same =
      let few = one_hit p.0 (entries m') (entries_rise R (entries m') (entries_sorted m')) in
      let moved = length_permutation _ _ (IsPermutation-filter (hits p.0) _ _ same) in
      let tie : is_eq (R p.0 p.0) ≡ true = ap is_eq (tied_itself o p.0) in
      let first : filter (hits p.0) (p ∷ (ps ++ entries m)) ≡ p ∷ filter (hits p.0) (ps ++ entries m) = ap (λ b. cond b (p ∷ filter (hits p.0) (ps ++ entries m)) (filter (hits p.0) (ps ++ entries m))) tie in
      let split = ap length (filter_joined (hits p.0) ps (entries m)) in
      let both = length-append (filter (hits p.0) ps) (filter (hits p.0) (entries m)) in
      let count = ap length first in
      get-entries m p.0 ∙ unfound p.0 (entries m) (omega (arith, few, moved, count, split, both))
    where
      filter_joined : (q : K × X → Bool) (xs ys : List (K × X)) → filter q (xs ++ ys) ≡ filter q xs ++ filter q ys
      filter_joined q [] ys = refl
      filter_joined q (x ∷ xs) ys = elim (q x) as (λ b. cond b (x ∷ filter q (xs ++ ys)) (filter q (xs ++ ys)) ≡ cond b (x ∷ filter q xs) (filter q xs) ++ filter q ys) [ true ↦ ap (λ l. x ∷ l) (filter_joined q xs ys) | false ↦ filter_joined q xs ys ]

  put_new : (k : K) (v : X) (es : List (K × X)) → find R k es ≡ None → IsPermutation ((k, v) ∷ es) (put R k v es)
  put_new k v [] h = IsPermutation-refl _
  put_new k v (e ∷ es) h = go (R k e.0) h (put_new k v es)
    where
      go : (c : Ordering) → cond (is_eq c) (Some e.1) (find R k es) ≡ None → (find R k es ≡ None → IsPermutation ((k, v) ∷ es) (put R k v es)) → IsPermutation ((k, v) ∷ e ∷ es) (by_order c ((k, v) ∷ e ∷ es) ((e.0, v) ∷ es) (e ∷ put R k v es))
      go Less h more = IsPermutation-refl _
      go Equal h more = absurd cc
      go Greater h more = IsPermutation-trans _ _ _ (IsPermutation-middle ((k, v) ∷ []) e es) (IsPermutation-cons e _ _ (more h))

  -- Inserting under a new key adds the entry to the others.
  pub inserted : (m : FinMap R X) (k : K) (v : X) → get m k ≡ None → IsPermutation ((k, v) ∷ entries m) (entries (insert m k v))
  inserted m k v h = subst (IsPermutation ((k, v) ∷ entries m)) (sym (entries-insert o m k v)) (put_new k v (entries m) (sym (get-entries m k) ∙ h))

  -- Inserting an entry moves it from the remaining entries to the map.
  pub moves_in : (m : FinMap R X) (p : K × X) (ps : List (K × X)) → get m p.0 ≡ None → IsPermutation (ps ++ entries (insert m p.0 p.1)) (p ∷ (ps ++ entries m))
  moves_in m p ps h = IsPermutation-trans _ _ _ (IsPermutation-append_right ps _ _ (IsPermutation-sym _ _ (inserted m p.0 p.1 h))) (IsPermutation-middle ps p (entries m))
