-- Lemmas about the entries of a map with one entry more or fewer.
use Rattle.std.proofs.Common.{◌≡◌, inl, inr, ◌≤◌, List, [], ◌∷◌, filter, length, not, Bool, true, false, cond, Option, Some, None, refl, sym, ap, subst, ◌∙◌, arith, is_eq, Ordering, Less, Equal, Greater}
use Rattle.std.specs.Prelude.{IsPermutation, IsSome}
use Rattle.std.specs.List.{AllByRecursion}
use Rattle.std.specs.Ordering.{eq_by_cmp}
use Rattle.std.specs.Cmp.{IsTotalOrder}
use Rattle.std.specs.FinMap.{FinMap, IsAntisymmetric, entries, entries_sorted, entries-insert, find, get, get-entries, get-remove, insert, remove}
use Rattle.std.specs.FinMap.Entries.{put, by_order}
use Rattle.std.proofs.lemmas.List.Sorted.{IsPermutation-refl, IsPermutation-trans, IsPermutation-cons, IsPermutation-middle}
use Rattle.sqlite_keyed.proofs.ListLemmas.{filter_none}
use Rattle.sqlite_trees.specs.Tree.{IsAscending}
use Rattle.std.proofs.lemmas.Cmp.{tied_itself}
use Rattle.std.proofs.lemmas.Option.{same_Some}
use Rattle.sqlite_rules.specs.Lists.{Has}
use Rattle.entity_core.proofs.Entries.{entries-remove}
use Rattle.space_sql_write.proofs.Lists.{equal_of}
use Rattle.space_sql_schema.proofs.OneAirspace.{EntryLess, entries_rise}

module _ {K X : Type 0} (R : K → K → Ordering) (o : IsTotalOrder R) (exact : IsAntisymmetric R) where
  abbrev pub hits : K → K × X → Bool
  hits k e = eq_by_cmp R k e.0

  -- The entries with other keys.
  abbrev pub others : K → List (K × X) → List (K × X)
  others k es = filter (λ e. not (hits k e)) es

  tied_misses : (k l : K) (es : List (K × X)) → R k l ≡ Equal → AllByRecursion (λ (e : K × X). R l e.0 ≡ Less) es → AllByRecursion (λ e. hits k e ≡ false) es
  tied_misses k l [] e all = tt
  tied_misses k l (f ∷ es) e all = (ap is_eq (o.congr k l f.0 e ∙ all.0), tied_misses k l es e all.1)

  lower_misses : (k l : K) (es : List (K × X)) → R k l ≡ Less → AllByRecursion (λ (e : K × X). R l e.0 ≡ Less) es → AllByRecursion (λ e. hits k e ≡ false) es
  lower_misses k l [] e all = tt
  lower_misses k l (f ∷ es) e all = (ap is_eq (o.trans k l f.0 e all.0), lower_misses k l es e all.1)

  -- At most one of ascending entries has a key.
  pub one_hit : (k : K) (es : List (K × X)) → IsAscending (EntryLess R) es → length (filter (hits k) es) ≤ 1
  one_hit k [] up = omega arith
  one_hit k (e ∷ es) up = go (R k e.0) refl (one_hit k es up.1)
    where
      go : (c : Ordering) → R k e.0 ≡ c → length (filter (hits k) es) ≤ 1 → length (cond (is_eq c) (e ∷ filter (hits k) es) (filter (hits k) es)) ≤ 1
      go Less p more = more
      go Greater p more = more
      go Equal p more = let none = ap length (filter_none (hits k) es (tied_misses k e.0 es p up.0)) in omega (arith, none)

  all_others : (k : K) (es : List (K × X)) → AllByRecursion (λ e. hits k e ≡ false) es → others k es ≡ es
  all_others k [] all = refl
  all_others k (e ∷ es) all = ap (λ b. cond (not b) (e ∷ others k es) (others k es)) all.0 ∙ ap (λ l. e ∷ l) (all_others k es all.1)

  put_beside : (k : K) (x : X) (es : List (K × X)) → IsAscending (EntryLess R) es → IsPermutation ((k, x) ∷ others k es) (put R k x es)
  put_beside k x [] up = IsPermutation-refl _
  put_beside k x (e ∷ es) up = go (R k e.0) refl (put_beside k x es up.1)
    where
      go : (c : Ordering) → R k e.0 ≡ c → IsPermutation ((k, x) ∷ others k es) (put R k x es)
          → IsPermutation ((k, x) ∷ cond (not (is_eq c)) (e ∷ others k es) (others k es)) (by_order c ((k, x) ∷ e ∷ es) ((e.0, x) ∷ es) (e ∷ put R k x es))
      go Less p more = subst (λ l. IsPermutation ((k, x) ∷ e ∷ l) ((k, x) ∷ e ∷ es)) (sym (all_others k es (lower_misses k e.0 es p up.0))) (IsPermutation-refl _)
      go Equal p more = subst (λ l. IsPermutation ((k, x) ∷ l) ((e.0, x) ∷ es)) (sym (all_others k es (tied_misses k e.0 es p up.0))) (subst (λ q. IsPermutation ((k, x) ∷ es) ((q, x) ∷ es)) (exact k e.0 p) (IsPermutation-refl _))
      go Greater p more = IsPermutation-trans _ _ _ (IsPermutation-middle ((k, x) ∷ []) e (others k es)) (IsPermutation-cons e _ _ more)

  rising : (m : FinMap R X) → IsAscending (EntryLess R) (entries m)
  rising m = entries_rise R (entries m) (entries_sorted m)

  pub few_hits : (k : K) (m : FinMap R X) → length (filter (hits k) (entries m)) ≤ 1
  few_hits k m = one_hit k (entries m) (rising m)

  -- Inserting an entry leaves it and those with other keys.
  pub inserted : (m : FinMap R X) (k : K) (x : X) → IsPermutation ((k, x) ∷ others k (entries m)) (entries (insert m k x))
  inserted m k x = subst (IsPermutation ((k, x) ∷ others k (entries m))) (sym (entries-insert o m k x)) (put_beside k x (entries m) (rising m))

  pub removed : (m : FinMap R X) (k : K) → entries (remove m k) ≡ others k (entries m)
  removed m k = entries-remove o exact m k

  find_there : (k : K) (es : List (K × X)) (x : X) → find R k es ≡ Some x → Has es (k, x)
  find_there k [] x e = absurd (let none = e in cc)
  find_there k (f ∷ es) x e = go (eq_by_cmp R k f.0) refl e (find_there k es x)
    where
      go : (b : Bool) → eq_by_cmp R k f.0 ≡ b → cond b (Some f.1) (find R k es) ≡ Some x → (find R k es ≡ Some x → Has es (k, x)) → Has (f ∷ es) (k, x)
      go true h e more = let key = exact k f.0 (equal_of (R k f.0) h) in let value = sym (same_Some f.1 x e) in inl (λ i. (key i, value i))
      go false h e more = inr (more e)

  -- An entry that is found is among the entries.
  pub entry_there : (m : FinMap R X) (k : K) (x : X) → get m k ≡ Some x → Has (entries m) (k, x)
  entry_there m k x e = find_there k (entries m) x (sym (get-entries m k) ∙ e)

  -- A removed key is not found.
  pub none_removed : (m : FinMap R X) (k : K) → get (remove m k) k ≡ None
  none_removed m k = get-remove o m k k ∙ ap (λ c. cond (is_eq c) None (get m k)) (tied_itself o k)

pub some_of : {X : Type 0} (found : Option X) → IsSome found → (x : X) × (found ≡ Some x)
some_of None none = absurd (let no' : false ≡ true = none in cc)
some_of (Some x) some = (x, refl)
