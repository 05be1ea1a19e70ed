-- The entries of a map that pass a test.
use Rattle.std.specs.Prelude.{◌≡◌, Bool, true, false, cond, T, List, [], ◌∷◌, filter, Option, Some, None, refl}
use Rattle.std.proofs.Common.{sym, ap, ◌∙◌, subst}
use Rattle.std.proofs.lemmas.Option.{same_Some}
use Rattle.std.specs.Ordering.{eq_by_cmp, is_eq, is_lt}
use Rattle.std.specs.Cmp.{IsTotalOrder}
use Rattle.std.specs.declared.cmp.Ordering.{Ordering}
use Rattle.std.specs.FinMap as maps
use Rattle.std.specs.FinMap.{FinMap, IsAntisymmetric, entries, entries_sorted, entries-from_sorted, from_sorted, get, get-entries, get-from_sorted, same_map}
use Rattle.std.specs.FinMap.Entries.{below_all, is_sorted}
use Rattle.entity_core.proofs.Entries.{first, second, less, sorted_kept}
use Rattle.space_memory.proofs.CellSets.{equal_is}

-- Two lookups that find the same values are equal.
pub one_answer : {X : Type 0} (a b : Option X) → ((x : X) → a ≡ Some x → b ≡ Some x) → ((x : X) → b ≡ Some x → a ≡ Some x) → a ≡ b
one_answer None None f g = refl
one_answer None (Some y) f g = g y refl
one_answer (Some x) b f g = sym (f x refl)

module _ {K X : Type 0} (R : K → K → Ordering) (o : IsTotalOrder R) (exact : IsAntisymmetric R) (p : K × X → Bool) where
  one_key : (q k : K) → eq_by_cmp R q k ≡ true → q ≡ k
  one_key q k h = exact q k (equal_is (R q k) h)

  none_below : (q : K) (es : List (K × X)) → T (below_all R q es) → maps.find R q es ≡ None
  none_below q [] h = refl
  none_below q (e ∷ es) h =
      ap (λ (r : Ordering). cond (is_eq r) (Some e.1) (maps.find R q es)) (less (R q e.0) (first _ _ h))
      ∙ none_below q es (second (is_lt (R q e.0)) _ h)

  pub found_kept : (q : K) (x : X) (es : List (K × X)) → maps.find R q es ≡ Some x → p (q, x) ≡ true → maps.find R q (filter p es) ≡ Some x
  found_kept q x [] h t = h
  found_kept q x (e ∷ es) h t =
      elim (eq_by_cmp R q e.0) as (λ b. eq_by_cmp R q e.0 ≡ b → cond b (Some e.1) (maps.find R q es) ≡ Some x → maps.find R q (cond (p e) (e ∷ filter p es) (filter p es)) ≡ Some x) [
        | true ↦ λ is g.
            let key : e.0 ≡ q = sym (one_key q e.0 is) in
            let own : e ≡ (q, x) = λ i. (key i, same_Some e.1 x g i) in
            subst (λ b. maps.find R q (cond b (e ∷ filter p es) (filter p es)) ≡ Some x) (sym (ap p own ∙ t)) (ap (λ b. cond b (Some e.1) (maps.find R q (filter p es))) is ∙ g)
        | false ↦ λ is g. elim (p e) as (λ b. maps.find R q (cond b (e ∷ filter p es) (filter p es)) ≡ Some x) [
          | true ↦ ap (λ b. cond b (Some e.1) (maps.find R q (filter p es))) is ∙ found_kept q x es g t
          | false ↦ found_kept q x es g t
        ]
      ] refl h

  pub kept_found : (q : K) (x : X) (es : List (K × X)) → T (is_sorted R es) → maps.find R q (filter p es) ≡ Some x → (maps.find R q es ≡ Some x) × (p (q, x) ≡ true)
  kept_found q x [] s h = (h, cc)
  kept_found q x (e ∷ es) s h =
      let rest = kept_found q x es (second (below_all R e.0 es) _ s) in
      elim (p e) as (λ b. p e ≡ b → maps.find R q (cond b (e ∷ filter p es) (filter p es)) ≡ Some x → (maps.find R q (e ∷ es) ≡ Some x) × (p (q, x) ≡ true)) [
        | true ↦ λ t g. elim (eq_by_cmp R q e.0) as (λ b. eq_by_cmp R q e.0 ≡ b → cond b (Some e.1) (maps.find R q (filter p es)) ≡ Some x → (cond b (Some e.1) (maps.find R q es) ≡ Some x) × (p (q, x) ≡ true)) [
          | true ↦ λ is f.
              let key : e.0 ≡ q = sym (one_key q e.0 is) in
              let own : e ≡ (q, x) = λ i. (key i, same_Some e.1 x f i) in
              (f, ap p (sym own) ∙ t)
          | false ↦ λ is f. rest f
        ] refl g
        | false ↦ λ t g.
            let r = rest g in
            elim (eq_by_cmp R q e.0) as (λ b. eq_by_cmp R q e.0 ≡ b → (cond b (Some e.1) (maps.find R q es) ≡ Some x) × (p (q, x) ≡ true)) [
              | true ↦ λ is. let bad : None ≡ Some x = sym (none_below e.0 es (first _ _ s)) ∙ (ap (λ (k : K). maps.find R k es) (sym (one_key q e.0 is)) ∙ r.0) in cc
              | false ↦ λ is. r
            ] refl
      ] refl h

  kept_sorted : (m : FinMap R X) → T (is_sorted R (filter p (entries m)))
  kept_sorted m = sorted_kept R p (entries m) (entries_sorted m)

  in_kept : (m : FinMap R X) (q : K) (x : X) → get m q ≡ Some x → p (q, x) ≡ true → get (from_sorted {R = R} (filter p (entries m))) q ≡ Some x
  in_kept m q x at t = get-from_sorted R (filter p (entries m)) q (kept_sorted m) ∙ found_kept q x (entries m) (sym (get-entries m q) ∙ at) t

  of_kept : (m : FinMap R X) (q : K) (x : X) → get (from_sorted {R = R} (filter p (entries m))) q ≡ Some x → (get m q ≡ Some x) × (p (q, x) ≡ true)
  of_kept m q x at =
      let f = kept_found q x (entries m) (entries_sorted m) (sym (get-from_sorted R (filter p (entries m)) q (kept_sorted m)) ∙ at) in
      (get-entries m q ∙ f.0, f.1)

  -- If one map has exactly the entries of another that pass a test, its entries are the filtered
  -- entries.
  pub entries_kept : (m n : FinMap R X) → ((q : K) (x : X) → get n q ≡ Some x → (get m q ≡ Some x) × (p (q, x) ≡ true))
      → ((q : K) (x : X) → get m q ≡ Some x → p (q, x) ≡ true → get n q ≡ Some x) → entries n ≡ filter p (entries m)
  entries_kept m n only all =
      ap (λ (l : FinMap R X). entries l) (same_map o exact n (from_sorted {R = R} (filter p (entries m))) (λ q.
      one_answer (get n q) (get (from_sorted {R = R} (filter p (entries m))) q)
      (λ x at. let h = only q x at in in_kept m q x h.0 h.1)
      (λ x at. let h = of_kept m q x at in all q x h.0 h.1)))
      ∙ entries-from_sorted R (filter p (entries m)) (kept_sorted m)

  -- If one map has only entries of another, and all of them that pass a test, the filtered entries
  -- of both are equal.
  pub same_kept : (m n : FinMap R X) → ((q : K) (x : X) → get n q ≡ Some x → get m q ≡ Some x)
      → ((q : K) (x : X) → get m q ≡ Some x → p (q, x) ≡ true → get n q ≡ Some x) → filter p (entries n) ≡ filter p (entries m)
  same_kept m n only all =
      sym (entries-from_sorted R (filter p (entries n)) (kept_sorted n))
      ∙ entries_kept m (from_sorted {R = R} (filter p (entries n)))
      (λ q x at. let h = of_kept n q x at in (only q x h.0, h.1))
      (λ q x at t. in_kept n q x (all q x at t) t)
