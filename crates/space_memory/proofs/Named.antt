-- The values of a map under ascending ids.
use Rattle.std.specs.Prelude.{◌≡◌, ℕ, ◌&&◌, ◌||◌, Bool, true, false, cond, T, List, [], ◌∷◌, map, filter, filter_map, Option, Some, None, refl}
use Rattle.std.proofs.Common.{sym, ap, ◌∙◌, subst}
use Rattle.std.proofs.lemmas.Cmp.{eq_by_cmp_equiv, nat_cmp_total}
use Rattle.std.proofs.lemmas.Map.Keys.{sorted_head, sorted_tail}
use Rattle.std.proofs.lemmas.Map.Lookups.{exact_unsigned}
use Rattle.std.specs.Ordering.{eq_by_cmp, is_eq, is_lt, nat_cmp}
use Rattle.std.specs.declared.cmp.Ordering.{Ordering}
use Rattle.std.specs.declared.cmp.Ordering.TheVariants.{Less}
use Rattle.std.specs.Cmp.{IsTotalOrder}
use Rattle.std.specs.List.{AllByRecursion, cons_option, list_any}
use Rattle.std.specs.List.Sorted.{IsStrictlySortedBy}
use Rattle.std.specs.FinMap as maps
use Rattle.std.specs.FinMap.{FinMap, IsAntisymmetric, entries, get}
use Rattle.std.specs.FinMap.Entries.{below_all}
use Rattle.entity_maps.specs.Sorted.{Rise, keyed, map_of}
use Rattle.entity_maps.proofs.Maps.{entries_of, get_of}
use Rattle.space_memory.proofs.CellSets.{equal_is}
use Rattle.space_memory.proofs.StoredEntries.{entries_kept}

both : (a b : Bool) → T a → T b → T (a && b)
both true b p q = q
both false b p q = p

-- Each value is stored under its own key, and ascending ids have ascending keys.
module _ {K X : Type 0} (R : K → K → Ordering) (o : IsTotalOrder R) (exact : IsAntisymmetric R) (own : X → K) (key : ℕ → K) (rises : (i j : ℕ) → nat_cmp i j ≡ Less → R (key i) (key j) ≡ Less)
    (m : FinMap R X) (its_own : (k : K) (x : X) → get m k ≡ Some x → own x ≡ k) where
  abbrev pair : X → K × X
  pair x = (own x, x)

  abbrev named : List ℕ → List X
  named ids = filter_map (λ i. get m (key i)) ids

  abbrev among : List ℕ → ℕ → Bool
  among ids i = list_any (λ k. is_eq (nat_cmp i k)) ids

  one_key : (q k : K) → eq_by_cmp R q k ≡ true → q ≡ k
  one_key q k h = exact q k (equal_is (R q k) h)

  values_of : (xs : List X) → map (λ (e : K × X). e.1) (keyed pair xs) ≡ xs
  values_of [] = refl
  values_of (x ∷ xs) = ap (λ (l : List X). x ∷ l) (values_of xs)

  named_below : (i : ℕ) (ids : List ℕ) → AllByRecursion (λ id. nat_cmp i id ≡ Less) ids → T (below_all R (key i) (keyed pair (named ids)))
  named_below i [] h = tt
  named_below i (id ∷ ids) h = elim (get m (key id)) as (λ o. get m (key id) ≡ o → T (below_all R (key i) (keyed pair (cons_option o (named ids))))) [
    | None ↦ λ e. named_below i ids h.1
    | Some x ↦ λ e. both _ _ (subst (λ (r : Ordering). T (is_lt r)) (sym (ap (R (key i)) (its_own (key id) x e) ∙ rises i id h.0)) tt) (named_below i ids h.1)
  ] refl

  named_order : (ids : List ℕ) → IsStrictlySortedBy nat_cmp ids → Rise R pair (named ids)
  named_order [] h = tt
  named_order (id ∷ ids) h = elim (get m (key id)) as (λ o. get m (key id) ≡ o → Rise R pair (cons_option o (named ids))) [
    | None ↦ λ e. named_order ids (sorted_tail nat_cmp id ids h)
    | Some x ↦ λ e. both _ _ (subst (λ (k : K). T (below_all R k (keyed pair (named ids)))) (sym (its_own (key id) x e)) (named_below id ids (sorted_head nat_cmp id ids h))) (named_order ids (sorted_tail nat_cmp id ids h))
  ] refl

  -- Holds if the map has the value under the key of one of the ids.
  abbrev IsNamed : List ℕ → K → X → Type 0
  IsNamed ids q x = (get m q ≡ Some x) × (i : ℕ) × (among ids i ≡ true) × (key i ≡ q)

  later : (id : ℕ) (ids : List ℕ) (q : K) (x : X) → IsNamed ids q x → IsNamed (id ∷ ids) q x
  later id ids q x n = (n.0, n.1, or_right (is_eq (nat_cmp n.1 id)) (among ids n.1) n.2, n.3)
    where
      or_right : (a b : Bool) → b ≡ true → (a || b) ≡ true
      or_right true b h = refl
      or_right false b h = h

  first : (id : ℕ) (ids : List ℕ) → among (id ∷ ids) id ≡ true
  first id ids = ap (λ b. b || among ids id) ((eq_by_cmp_equiv nat_cmp_total).refl id)

  named_only : (ids : List ℕ) (q : K) (x : X) → maps.find R q (keyed pair (named ids)) ≡ Some x → IsNamed ids q x
  named_only [] q x h = cc
  named_only (id ∷ ids) q x h = elim (get m (key id)) as (λ o. get m (key id) ≡ o → maps.find R q (keyed pair (cons_option o (named ids))) ≡ Some x → IsNamed (id ∷ ids) q x) [
    | None ↦ λ e g. later id ids q x (named_only ids q x g)
    | Some y ↦ λ e g. elim (eq_by_cmp R q (own y)) as (λ b. eq_by_cmp R q (own y) ≡ b → cond b (Some y) (maps.find R q (keyed pair (named ids))) ≡ Some x → IsNamed (id ∷ ids) q x) [
      | true ↦ λ is f.
          let here : key id ≡ q = sym (one_key q (own y) is ∙ its_own (key id) y e) in
          (ap (get m) (sym here) ∙ (e ∙ f), id, first id ids, here)
      | false ↦ λ is f. later id ids q x (named_only ids q x f)
    ] refl g
  ] refl h

  named_found : (ids : List ℕ) (i : ℕ) (x : X) → get m (key i) ≡ Some x → among ids i ≡ true → maps.find R (key i) (keyed pair (named ids)) ≡ Some x
  named_found [] i x at h = cc
  named_found (id ∷ ids) i x at h = elim (is_eq (nat_cmp i id)) as (λ b. is_eq (nat_cmp i id) ≡ b → (b || among ids i) ≡ true → maps.find R (key i) (keyed pair (named (id ∷ ids))) ≡ Some x) [
    | true ↦ λ is g.
        let one : i ≡ id = exact_unsigned i id (equal_is (nat_cmp i id) is) in
        let here : get m (key id) ≡ Some x = ap (λ (k : ℕ). get m (key k)) (sym one) ∙ at in
        let level : eq_by_cmp R (key i) (own x) ≡ true = subst (λ (k : K). eq_by_cmp R (key i) k ≡ true) (sym (its_own (key i) x at)) ((eq_by_cmp_equiv o).refl (key i)) in
        ap (λ (o : Option X). maps.find R (key i) (keyed pair (cons_option o (named ids)))) here ∙ ap (λ b. cond b (Some x) (maps.find R (key i) (keyed pair (named ids)))) level
    | false ↦ λ is g.
        let rest = named_found ids i x at g in
        elim (get m (key id)) as (λ o. get m (key id) ≡ o → maps.find R (key i) (keyed pair (cons_option o (named ids))) ≡ Some x) [
          | None ↦ λ e. rest
          | Some y ↦ λ e. elim (eq_by_cmp R (key i) (own y)) as (λ b. eq_by_cmp R (key i) (own y) ≡ b → cond b (Some y) (maps.find R (key i) (keyed pair (named ids))) ≡ Some x) [
            | true ↦ λ level. sym e ∙ (ap (get m) (sym (one_key (key i) (own y) level ∙ its_own (key id) y e)) ∙ at)
            | false ↦ λ level. rest
          ] refl
        ] refl
  ] refl h

  -- If all values under the ids pass a test, and the ids cover all values that pass, the values are
  -- exactly those that pass.
  pub all_named : (p : K × X → Bool) (ids : List ℕ) → IsStrictlySortedBy nat_cmp ids
      → ((i : ℕ) (x : X) → among ids i ≡ true → get m (key i) ≡ Some x → p (key i, x) ≡ true)
      → ((q : K) (x : X) → get m q ≡ Some x → p (q, x) ≡ true → (i : ℕ) × (key i ≡ q) × (among ids i ≡ true))
      → named ids ≡ map (λ (e : K × X). e.1) (filter p (entries m))
  all_named p ids rise only all =
      sym (values_of (named ids))
      ∙ ap (map (λ (e : K × X). e.1)) (sym (entries_of R pair o (named ids) (named_order ids rise))
      ∙ entries_kept R o exact p m (map_of R pair (named ids))
      (λ q x at.
      let n = named_only ids q x (sym (get_of R pair o q (named ids)) ∙ at) in
      (n.0, subst (λ (k : K). p (k, x) ≡ true) n.3 (only n.1 x n.2 (ap (get m) n.3 ∙ n.0))))
      (λ q x at t.
      let i = all q x at t in
      get_of R pair o q (named ids) ∙ subst (λ (k : K). maps.find R k (keyed pair (named ids)) ≡ Some x) i.1 (named_found ids i.0 x (ap (get m) i.1 ∙ at) i.2)))
