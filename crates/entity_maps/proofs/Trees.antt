-- Trees in which each value is stored under its own key, and the maps of their lists.
use Rattle.std.specs.Prelude.{◌≡◌, Bool, true, false, cond, ◌&&◌, T, List, [], ◌∷◌, ◌++◌, filter, Some, None, Result, Ok, Err, OnOk, OnErr, refl}
use Rattle.std.proofs.Common.{sym, ap, ◌∙◌, subst}
use Rattle.std.proofs.lemmas.Cmp.{eq_by_cmp_equiv}
use Rattle.std.proofs.lemmas.Map.Keys.{sorted_head, sorted_tail}
use Rattle.std.proofs.lemmas.Map.Lookups.{CmpEqualImpliesEq}
use Rattle.std.specs.BTreeMap as tree
use Rattle.std.specs.BTreeMap.{BTreeMap, insert_entry, is_at}
use Rattle.std.specs.BTreeMap.Range.{entries_between, range_contains}
use Rattle.std.specs.Cmp.{IsTotalOrder}
use Rattle.std.specs.FinMap as maps
use Rattle.std.specs.FinMap.{IsAntisymmetric, get, get-insert, get-remove, insert, remove, same_map}
use Rattle.std.specs.FinMap.Entries.{below_all}
use Rattle.std.specs.List.{AllByRecursion}
use Rattle.std.specs.List.Sorted.{IsStrictlySortedBy}
use Rattle.std.specs.Map.{keys_of, values_of, lookup, remove_entry}
use Rattle.std.specs.Ordering.{eq_by_cmp, is_le, is_lt, match_ordering}
use Rattle.std.specs.declared.cmp.Ordering.{Ordering}
use Rattle.std.specs.declared.cmp.Ordering.TheVariants.{Less, Equal, Greater}
use Rattle.std.specs.declared.ops.Bound.TheVariants.{Included, Unbounded}
use Rattle.entity_maps.specs.Sorted.{keyed, Rise, map_of}
use Rattle.entity_maps.proofs.Maps.{get_of}

both : (a b : Bool) → T a → T b → T (a && b)
both true b p q = q
both false b p q = p

and_true : (b : Bool) → b && true ≡ b
and_true true = refl
and_true false = refl

-- A tree's key is `number` of the map's key, and both have the same order.
module _ {K N A : Type 0} (S : N → N → Ordering) (number : K → N) (key : A → K) where
  abbrev order : K → K → Ordering
  order k l = S (number k) (number l)

  abbrev pair : A → K × A
  pair x = (key x, x)

  abbrev Entries : Type 0
  Entries = List (N × A)

  abbrev Keyed : Entries → Type 0
  Keyed es = AllByRecursion (λ e. e.0 ≡ number (key e.1)) es

  abbrev InOrder : List A → Type 0
  InOrder xs = Rise order pair xs

  abbrev test : K → N → Bool
  test k = is_at (S (number k))

  -- ---- puts and removals

  pub keyed_without : (p : N → Bool) (es : Entries) → Keyed es → Keyed (remove_entry p es)
  keyed_without p [] a = a
  keyed_without p (e ∷ es) a = elim (p e.0) as (λ b. Keyed (cond b es (e ∷ remove_entry p es))) [ true ↦ a.1 | false ↦ (a.0, keyed_without p es a.1) ]

  module _ (exact : CmpEqualImpliesEq S) where
    keyed_put : (v : A) (es : Entries) → Keyed es → Keyed (insert_entry S es (number (key v)) v)
    keyed_put v [] a = (refl, tt)
    keyed_put v (e ∷ es) a =
        let k : N = number (key v) in
        elim (S k e.0) as (λ r. S k e.0 ≡ r → Keyed (match_ordering r ((k, v) ∷ e ∷ es) ((e.0, v) ∷ es) (e ∷ insert_entry S es k v))) [
          | Less ↦ λ is. (refl, a)
          | Equal ↦ λ is. (sym (exact k e.0 is), a.1)
          | Greater ↦ λ is. (a.0, keyed_put v es a.1)
        ] refl

    pub keyed_after : {R E : Type 0} (r : Result R E) (old new : Entries) (v : A) (k : N) → k ≡ number (key v) → Keyed old → OnOk r (new ≡ insert_entry S old k v) → OnErr r (new ≡ old) → Keyed new
    keyed_after (Ok x) old new v k e a ok err = subst Keyed (sym (ok ∙ ap (λ (q : N). insert_entry S old q v) e)) (keyed_put v old a)
    keyed_after (Err x) old new v k e a ok err = subst Keyed (sym err) a

  -- ---- the order

  all_above : (k : K) (es : Entries) → Keyed es → AllByRecursion (λ q. S (number k) q ≡ Less) (keys_of es) → T (below_all order k (keyed pair (values_of es)))
  all_above k [] a h = tt
  all_above k (e ∷ es) a h =
      let less : order k (key e.1) ≡ Less = ap (S (number k)) (sym a.0) ∙ h.0 in
      both _ _ (subst (λ (r : Ordering). T (is_lt r)) (sym less) tt) (all_above k es a.1 h.1)

  in_order : (es : Entries) → Keyed es → IsStrictlySortedBy S (keys_of es) → InOrder (values_of es)
  in_order [] a s = tt
  in_order (e ∷ es) a s =
      let head = sorted_head S e.0 (keys_of es) s in
      both _ _ (all_above (key e.1) es a.1 (subst (λ (k : N). AllByRecursion (λ q. S k q ≡ Less) (keys_of es)) a.0 head)) (in_order es a.1 (sorted_tail S e.0 (keys_of es) s))

  -- ---- the values whose keys pass a test

  pub kept_values : (f : N → Bool) (p : A → Bool) → ((x : A) → f (number (key x)) ≡ p x) → (es : Entries) → Keyed es → values_of (filter (λ e. f e.0) es) ≡ filter p (values_of es)
  kept_values f p same [] a = refl
  kept_values f p same (e ∷ es) a =
      let rest : Entries = filter (λ x. f x.0) es in
      let kept : List A = filter p (values_of es) in
      ap (λ b. values_of (cond b (e ∷ rest) rest)) (ap f a.0 ∙ same e.1)
      ∙ elim (p e.1) as (λ b. values_of (cond b (e ∷ rest) rest) ≡ cond b (e.1 ∷ kept) kept) [
        | true ↦ ap (λ (xs : List A). e.1 ∷ xs) (kept_values f p same es a.1)
        | false ↦ kept_values f p same es a.1
      ]

  from_key : (k : K) (es : Entries) → Keyed es → values_of (entries_between S (Included (number k)) Unbounded es) ≡ filter (λ x. is_le (order k (key x))) (values_of es)
  from_key k es a = kept_values (range_contains S (Included (number k)) Unbounded) (λ x. is_le (order k (key x))) (λ x. and_true (is_le (order k (key x)))) es a

  all_entries : (es : Entries) → entries_between S Unbounded Unbounded es ≡ es
  all_entries [] = refl
  all_entries (e ∷ es) = ap (λ (xs : Entries). e ∷ xs) (all_entries es)

  module _ (m : BTreeMap N A) (xs : List A) (e : tree.values m ≡ xs) (a : Keyed m.entries) (s : tree.IsOrdered S m) where
    pub order_kept : InOrder xs
    order_kept = subst InOrder e (in_order m.entries a s)

    pub found_from : (k : K) (es : Entries) → es ≡ entries_between S (Included (number k)) Unbounded m.entries → values_of es ≡ filter (λ x. is_le (order k (key x))) xs
    found_from k es h = ap values_of h ∙ (from_key k m.entries a ∙ ap (filter (λ x. is_le (order k (key x)))) e)

    pub found_whole : (es : Entries) → es ≡ entries_between S Unbounded Unbounded m.entries → values_of es ≡ xs
    found_whole es h = ap values_of (h ∙ all_entries m.entries) ∙ e

  module _ (total : IsTotalOrder order) where
    -- ---- a lookup in a tree agrees with a lookup in the map of its list

    found_in : (es : Entries) (k : K) → Keyed es → lookup (test k) es ≡ maps.find order k (keyed pair (values_of es))
    found_in [] k a = refl
    found_in (e ∷ es) k a =
        ap (λ (q : N). cond (test k q) (Some e.1) (lookup (test k) es)) a.0
        ∙ ap (cond (eq_by_cmp order k (key e.1)) (Some e.1)) (found_in es k a.1)

    pub get_in : (m : BTreeMap N A) (xs : List A) (k : K) → tree.values m ≡ xs → Keyed m.entries → tree.get S m (number k) ≡ get (map_of order pair xs) k
    get_in m xs k e a = found_in m.entries k a ∙ (sym (get_of order pair total k (tree.values m)) ∙ ap (λ (l : List A). get (map_of order pair l) k) e)

    module _ (same : IsAntisymmetric order) (m n : BTreeMap N A) (old : List A) (e : tree.values m ≡ old) (a : Keyed m.entries) (b : Keyed n.entries) where
      pub put_map : (v : A) → ((q : N) → tree.get S n q ≡ cond (test (key v) q) (Some v) (tree.get S m q)) → map_of order pair (tree.values n) ≡ insert (map_of order pair old) (key v) v
      put_map v u = same_map total same (map_of order pair (tree.values n)) (insert (map_of order pair old) (key v) v) (λ k.
          sym (get_in n (tree.values n) k refl b) ∙ (u (number k)
          ∙ (ap (cond (eq_by_cmp order (key v) k) (Some v)) (get_in m old k e a)
          ∙ (ap (λ t. cond t (Some v) (get (map_of order pair old) k)) ((eq_by_cmp_equiv total).symm (key v) k)
          ∙ sym (get-insert total (map_of order pair old) (key v) v k)))))

      pub without_map : (gone : K) → ((q : N) → tree.get S n q ≡ cond (test gone q) None (tree.get S m q)) → map_of order pair (tree.values n) ≡ remove (map_of order pair old) gone
      without_map gone u = same_map total same (map_of order pair (tree.values n)) (remove (map_of order pair old) gone) (λ k.
          sym (get_in n (tree.values n) k refl b) ∙ (u (number k)
          ∙ (ap (cond (eq_by_cmp order gone k) None) (get_in m old k e a)
          ∙ (ap (λ t. cond t None (get (map_of order pair old) k)) ((eq_by_cmp_equiv total).symm gone k)
          ∙ sym (get-remove total (map_of order pair old) gone k)))))

-- ---- loops: the results so far and the remaining elements

no_more : {A : Type 0} (xs : List A) → xs ++ [] ≡ xs
no_more [] = refl
no_more (x ∷ xs) = ap (λ ys. x ∷ ys) (no_more xs)

pub all_gone : {A B : Type 0} (f : List A → List B) (xs all : List B) (left : List A) → f [] ≡ [] → xs ++ f left ≡ all → left ≡ [] → xs ≡ all
all_gone f xs all left e h none = sym (ap (λ ys. xs ++ f ys) none ∙ (ap (λ ys. xs ++ ys) e ∙ no_more xs)) ∙ h
