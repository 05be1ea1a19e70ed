-- Proofs that a row with a new rowid is added to a table.
use Rattle.std.proofs.Common.{◌≡◌, ℤ, List, [], ◌∷◌, ◌++◌, map, false, refl, sym, ap, subst, ◌∙◌, Ordering, Less, Equal, Greater, is_eq, int_eq, int_cmp}
use Rattle.std.specs.Prelude.{IsPermutation}
use Rattle.std.specs.List.{AllByRecursion}
use Rattle.std.specs.Ordering.{match_ordering, ordering_reverse}
use Rattle.std.proofs.lemmas.Cmp.{int_cmp_total}
use Rattle.std.proofs.lemmas.List.Elements.{All-from_recursion, recursion_from_All}
use Rattle.std.proofs.lemmas.List.Sorted.{IsPermutation-map, IsPermutation-refl, IsPermutation-trans, IsPermutation-sym, IsPermutation-cons, IsPermutation-middle, IsPermutation-append_comm, All-permutation}
use Rattle.sqlite_keyed.proofs.ListLemmas.{all_map, all_unmap, all_weaker, none_from_any}
use Rattle.sqlite_value.specs.declared.value.Value.{Value}
use Rattle.sqlite_value.specs.declared.value.Value.TheVariants.{Int}
use Rattle.sqlite_value.specs.Order.{Row, value_cmp}
use Rattle.sqlite_value.proofs.OrderLemmas.{value_cmp-Int}
use Rattle.sqlite_trees.specs.Tree.{rowid, put_row, IsAscending}
use Rattle.sqlite_rules.specs.Edit.{is_taken}
use Rattle.space_sql_schema.specs.Spelling.{AreApart}
use Rattle.space_sql_write.specs.Layout.{AreRows}

pub joins : (new : Row) (rows : List Row) → is_taken rows new ≡ false → IsPermutation (new ∷ rows) (put_row new rows)
joins new [] fresh = IsPermutation-refl _
joins new (r ∷ rows) fresh = go (value_cmp (rowid r) (rowid new)) refl (joins new rows)
  where
    go : (o : Ordering) → value_cmp (rowid r) (rowid new) ≡ o → (is_taken rows new ≡ false → IsPermutation (new ∷ rows) (put_row new rows))
        → IsPermutation (new ∷ r ∷ rows) (match_ordering o (r ∷ put_row new rows) (new ∷ rows) (new ∷ r ∷ rows))
    go Less e more = IsPermutation-trans _ _ _ (IsPermutation-middle (new ∷ []) r rows) (IsPermutation-cons r _ _ (more (rw e at fresh)))
    go Equal e more = absurd (let taken = rw e at fresh in cc)
    go Greater e more = IsPermutation-refl _

-- ---- an ascending list with one more element

module _ {X : Type 0} (key : X → ℤ) where
  abbrev pub put_by : X → List X → List X
  put_by x [] = x ∷ []
  put_by x (y ∷ ys) = match_ordering (int_cmp (key y) (key x)) (y ∷ put_by x ys) (x ∷ y ∷ ys) (x ∷ y ∷ ys)

  abbrev pub Before : X → X → Type 0
  Before a b = int_cmp (key a) (key b) ≡ Less

  pub put_permutes : (x : X) (ys : List X) → IsPermutation (x ∷ ys) (put_by x ys)
  put_permutes x [] = IsPermutation-refl _
  put_permutes x (y ∷ ys) = elim (int_cmp (key y) (key x)) as (λ o. IsPermutation (x ∷ y ∷ ys) (match_ordering o (y ∷ put_by x ys) (x ∷ y ∷ ys) (x ∷ y ∷ ys))) [
    | Less ↦ IsPermutation-trans _ _ _ (IsPermutation-middle (x ∷ []) y ys) (IsPermutation-cons y _ _ (put_permutes x ys))
    | Equal ↦ IsPermutation-refl _
    | Greater ↦ IsPermutation-refl _
  ]

  pub all_put : (P : X → Type 0) (x : X) (ys : List X) → P x → AllByRecursion P ys → AllByRecursion P (put_by x ys)
  all_put P x [] here all = (here, tt)
  all_put P x (y ∷ ys) here all = elim (int_cmp (key y) (key x)) as (λ o. AllByRecursion P (match_ordering o (y ∷ put_by x ys) (x ∷ y ∷ ys) (x ∷ y ∷ ys))) [
    | Less ↦ (all.0, all_put P x ys here all.1)
    | Equal ↦ (here, all)
    | Greater ↦ (here, all)
  ]

  pub put_rises : (x : X) (ys : List X) → AllByRecursion (λ y. int_eq (key y) (key x) ≡ false) ys → IsAscending Before ys → IsAscending Before (put_by x ys)
  put_rises x [] other up = (tt, tt)
  put_rises x (y ∷ ys) other up = go (int_cmp (key y) (key x)) refl (put_rises x ys other.1 up.1)
    where
      go : (o : Ordering) → int_cmp (key y) (key x) ≡ o → IsAscending Before (put_by x ys) → IsAscending Before (match_ordering o (y ∷ put_by x ys) (x ∷ y ∷ ys) (x ∷ y ∷ ys))
      go Less e more = (all_put (Before y) x ys e up.0, more)
      go Equal e more = absurd (let none = other.0 in let tied = ap is_eq e in cc)
      go Greater e more =
          let less = int_cmp_total.antisymm (key x) (key y) ∙ ap ordering_reverse e in
          ((less, all_weaker (Before y) (Before x) (λ z h. int_cmp_total.trans (key x) (key y) (key z) less h) ys up.0), up)

-- ---- rowids

-- No existing row has the rowid of a new one.
others_have : (new : Row) (n : ℤ) (rows : List Row) (ids : List ℤ) → rowid new ≡ Int n → is_taken rows new ≡ false → IsPermutation (map (λ m. Int m) ids) (map rowid rows) → AllByRecursion (λ m. int_eq m n ≡ false) ids
others_have new n rows ids is fresh same =
    let Other = λ (v : Value). is_eq (value_cmp v (rowid new)) ≡ false in
    let theirs = all_map Other rowid rows (none_from_any (λ r. is_eq (value_cmp (rowid r) (rowid new))) rows fresh) in
    let moved = recursion_from_All Other _ (All-permutation Other _ _ (IsPermutation-sym _ _ same) (All-from_recursion Other _ theirs)) in
    all_weaker _ (λ m. int_eq m n ≡ false) (λ m h. ap is_eq (sym (value_cmp-Int m n)) ∙ (ap (λ v. is_eq (value_cmp (Int m) v)) (sym is) ∙ h)) ids (all_unmap Other (λ m. Int m) ids moved)

-- The rowids stay distinct.
apart_joined : (new : Row) (n : ℤ) (rows : List Row) → rowid new ≡ Int n → is_taken rows new ≡ false → AreApart rows → AreApart (put_row new rows)
apart_joined new n rows is fresh it = (
  put_by (λ m. m) n it.0,
  put_rises (λ m. m) n it.0 (others_have new n rows it.0 is fresh it.2) it.1,
  IsPermutation-trans _ _ _ (IsPermutation-map (λ m. Int m) _ _ (IsPermutation-sym _ _ (put_permutes (λ m. m) n it.0)))
      (IsPermutation-trans _ _ _ (subst (λ v. IsPermutation (Int n ∷ map (λ m. Int m) it.0) (v ∷ map rowid rows)) (sym is) (IsPermutation-cons (Int n) _ _ it.2)) (IsPermutation-map rowid _ _ (joins new rows fresh))),
)

-- The table has one more row.
pub one_more : {R : Type 0} (encode : R → Row) (columns : Row → Row) (rs : List R) (r : R) (new : Row) (n : ℤ) (rows : List Row) → columns new ≡ encode r → rowid new ≡ Int n → is_taken rows new ≡ false → AreRows encode columns rs rows
    → AreRows encode columns (rs ++ r ∷ []) (put_row new rows)
one_more encode columns rs r new n rows is number fresh has = record {
  same = IsPermutation-trans _ _ _ (IsPermutation-map encode _ _ (IsPermutation-append_comm rs (r ∷ [])))
      (IsPermutation-trans _ _ _ (subst (λ v. IsPermutation (encode r ∷ map encode rs) (v ∷ map columns rows)) (sym is) (IsPermutation-cons (encode r) _ _ has.same)) (IsPermutation-map columns _ _ (joins new rows fresh)));
  apart = apart_joined new n rows number fresh has.apart;
}
