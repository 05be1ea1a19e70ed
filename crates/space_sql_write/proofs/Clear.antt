-- Proofs that a delete removes the rows that pass, if no two rows share a rowid.
use Rattle.std.proofs.Common.{◌≡◌, ◌⊎◌, inl, inr, ℤ, List, [], ◌∷◌, map, filter, not, ◌||◌, Bool, true, false, cond, refl, sym, ap, subst, ◌∙◌, is_eq, int_cmp}
use Rattle.std.specs.Prelude.{IsPermutation}
use Rattle.std.specs.List.{list_any, AllByRecursion}
use Rattle.std.proofs.lemmas.Bool.{cases_Bool}
use Rattle.std.proofs.lemmas.List.Elements.{All-from_recursion, recursion_from_All}
use Rattle.std.proofs.lemmas.List.Sorted.{IsPermutation-sym, All-permutation}
use Rattle.sqlite.specs.declared.types.Value.{Value}
use Rattle.sqlite.specs.declared.types.Value.TheVariants.{Int}
use Rattle.sqlite.specs.Order.{Row}
use Rattle.sqlite_value.specs.Order.{value_cmp}
use Rattle.sqlite_value.proofs.OrderLemmas.{value_cmp_total}
use Rattle.std.proofs.lemmas.Cmp.{tied_itself}
use Rattle.sqlite_trees.specs.Tree.{rowid, has_rowid, without_rowid}
use Rattle.sqlite_trees.specs.View.{is_int}
use Rattle.sqlite_rules.specs.Edit.{id_in, without_all}
use Rattle.sqlite_rules.specs.Lists.{Has}
use Rattle.sqlite_rules.proofs.TableLemmas.{int_is}
use Rattle.std.proofs.Common.{arith, length, ◌≤◌, ◌&&◌, Ordering, Less, Equal, Greater, subst₂}
use Rattle.std.proofs.lemmas.Cmp.{int_cmp_total}
use Rattle.std.proofs.lemmas.List.{length-map}
use Rattle.std.proofs.lemmas.List.Sorted.{length_permutation}
use Rattle.sqlite_keyed.proofs.ListLemmas.{IsPermutation-filter, filter-map, filter_none, ascending-filter, all_unmap, filter_same as filter_alike}
use Rattle.sqlite_value.proofs.OrderLemmas.{value_cmp-Int}
use Rattle.sqlite_trees.specs.Tree.{IsAscending}
use Rattle.space_sql_schema.specs.Spelling.{AreApart}
use Rattle.space_sql_write.proofs.Lists.{all_there, has_filtered, filter_on, alone}

-- Holds if each row has a number as its rowid, and no two rows share one.
pub record PairApart (rows : List Row) : Type 0 where
  pub numbers : (r : Row) → Has rows r → is_int (rowid r) ≡ true
  pub apart : (a b : Row) → Has rows a → Has rows b → is_eq (value_cmp (rowid a) (rowid b)) ≡ true → a ≡ b

filter_twice : {X : Type 0} (p q : X → Bool) (xs : List X) → filter (λ x. not (p x)) (filter (λ x. not (q x)) xs) ≡ filter (λ x. not (q x || p x)) xs
filter_twice p q [] = refl
filter_twice p q (x ∷ xs) = go (q x) (p x) (filter_twice p q xs)
  where
    go : (a b : Bool) → filter (λ x. not (p x)) (filter (λ x. not (q x)) xs) ≡ filter (λ x. not (q x || p x)) xs
        → filter (λ x. not (p x)) (cond (not (q x)) (x ∷ filter (λ x. not (q x)) xs) (filter (λ x. not (q x)) xs)) ≡ cond (not (q x || p x)) (x ∷ filter (λ x. not (q x || p x)) xs) (filter (λ x. not (q x || p x)) xs)
    go a b more = elim (q x) as (λ a. filter (λ x. not (p x)) (cond (not a) (x ∷ filter (λ x. not (q x)) xs) (filter (λ x. not (q x)) xs)) ≡ cond (not (a || p x)) (x ∷ filter (λ x. not (q x || p x)) xs) (filter (λ x. not (q x || p x)) xs)) [
      | true ↦ more
      | false ↦ ap (λ l. cond (not (p x)) (x ∷ l) l) more
    ]

gone_by_ids : (ids : List ℤ) (rows : List Row) → without_all rows ids ≡ filter (λ r. not (list_any (λ id. has_rowid id r) ids)) rows
gone_by_ids [] rows = sym (all_stay rows)
  where
    all_stay : (rows : List Row) → filter (λ r. true) rows ≡ rows
    all_stay [] = refl
    all_stay (r ∷ rows) = ap (λ l. r ∷ l) (all_stay rows)
gone_by_ids (id ∷ ids) rows = gone_by_ids ids (without_rowid id rows) ∙ filter_twice (λ r. list_any (λ i. has_rowid i r) ids) (has_rowid id) rows

none_any : (p : ℤ → Bool) (ids : List ℤ) → AllByRecursion (λ id. p id ≡ false) ids → list_any p ids ≡ false
none_any p [] all = refl
none_any p (id ∷ ids) all = rw all.0 (none_any p ids all.1)

any_none : (p : ℤ → Bool) (ids : List ℤ) → list_any p ids ≡ false → AllByRecursion (λ id. p id ≡ false) ids
any_none p [] none = tt
any_none p (id ∷ ids) none = go (p id) refl none (any_none p ids)
  where
    go : (b : Bool) → p id ≡ b → (b || list_any p ids) ≡ false → (list_any p ids ≡ false → AllByRecursion (λ id. p id ≡ false) ids) → (p id ≡ false) × AllByRecursion (λ id. p id ≡ false) ids
    go true e h more = absurd (let no' = h in cc)
    go false e h more = (e, more h)

abbrev numbers_of : (Row → Bool) → List Row → List ℤ
numbers_of hit rows = map (λ r. id_in (rowid r)) (filter hit rows)

pub ties_itself : (r : Row) → is_int (rowid r) ≡ true → has_rowid (id_in (rowid r)) r ≡ true
ties_itself r int = subst (λ v. is_eq (value_cmp (rowid r) v) ≡ true) (int_is (rowid r) int) (ap is_eq (tied_itself value_cmp_total (rowid r)))

-- A row that does not pass has the number of no row that does.
misses : (hit : Row → Bool) (rows from : List Row) (r : Row) → PairApart rows → Has rows r → hit r ≡ false → ((x : Row) → Has from x → Has rows x) → AllByRecursion (λ id. has_rowid id r ≡ false) (numbers_of hit from)
misses hit rows [] r sound there no' sub = tt
misses hit rows (x ∷ from) r sound there no' sub = go (hit x) refl (misses hit rows from r sound there no' (λ y has. sub y (inr has)))
  where
    go : (b : Bool) → hit x ≡ b → AllByRecursion (λ id. has_rowid id r ≡ false) (numbers_of hit from) → AllByRecursion (λ id. has_rowid id r ≡ false) (map (λ y. id_in (rowid y)) (cond b (x ∷ filter hit from) (filter hit from)))
    go false e more = more
    go true e more = (
      elim (cases_Bool (has_rowid (id_in (rowid x)) r)) [
        | inl tied ↦ absurd (let same = sound.apart r x there (sub x (inl refl)) (subst (λ v. is_eq (value_cmp (rowid r) v) ≡ true) (sym (int_is (rowid x) (sound.numbers x (sub x (inl refl))))) tied) in let both = ap hit same in cc)
        | inr free ↦ free
      ],
      more,
    )

-- A row that passes is among those with the numbers.
hits : (hit : Row → Bool) (from : List Row) (r : Row) → Has from r → hit r ≡ true → is_int (rowid r) ≡ true → AllByRecursion (λ id. has_rowid id r ≡ false) (numbers_of hit from) → ⊥
hits hit [] r there passed int all = there
hits hit (x ∷ from) r (inl same) passed int all = let e = ties_itself r int in let first = subst (λ b. AllByRecursion (λ id. has_rowid id r ≡ false) (map (λ y. id_in (rowid y)) (cond b (x ∷ filter hit from) (filter hit from)))) (ap hit (sym same) ∙ passed) all in
    let none = subst (λ y. has_rowid (id_in (rowid y)) r ≡ false) (sym same) first.0 in absurd (let no' = sym e ∙ none in cc)
hits hit (x ∷ from) r (inr more) passed int all = go (hit x) refl (hits hit from r more passed int) all
  where
    go : (b : Bool) → hit x ≡ b → (AllByRecursion (λ id. has_rowid id r ≡ false) (numbers_of hit from) → ⊥) → AllByRecursion (λ id. has_rowid id r ≡ false) (map (λ y. id_in (rowid y)) (cond b (x ∷ filter hit from) (filter hit from))) → ⊥
    go true e rest h = rest h.1
    go false e rest h = rest h

-- The remaining rows are those that do not pass.
pub clears : (hit : Row → Bool) (rows : List Row) (ids : List ℤ) → PairApart rows → IsPermutation (numbers_of hit rows) ids → without_all rows ids ≡ filter (λ r. not (hit r)) rows
clears hit rows ids sound same = gone_by_ids ids rows ∙ filter_on _ _ rows (λ r there. ap not (each r there (cases_Bool (hit r)) (cases_Bool (list_any (λ id. has_rowid id r) ids))))
  where
    each : (r : Row) → Has rows r → (hit r ≡ true) ⊎ (hit r ≡ false) → (list_any (λ id. has_rowid id r) ids ≡ true) ⊎ (list_any (λ id. has_rowid id r) ids ≡ false) → list_any (λ id. has_rowid id r) ids ≡ hit r
    each r there (inl passed) (inl found) = found ∙ sym passed
    each r there (inl passed) (inr none) = absurd (hits hit rows r there passed (sound.numbers r there)
        (recursion_from_All (λ id. has_rowid id r ≡ false) (numbers_of hit rows) (All-permutation (λ id. has_rowid id r ≡ false) ids (numbers_of hit rows) (IsPermutation-sym (numbers_of hit rows) ids same) (All-from_recursion (λ id. has_rowid id r ≡ false) ids (any_none (λ id. has_rowid id r) ids none)))))
    each r there (inr no') found = none_any (λ id. has_rowid id r) ids (recursion_from_All (λ id. has_rowid id r ≡ false) ids (All-permutation (λ id. has_rowid id r ≡ false) (numbers_of hit rows) ids same (All-from_recursion (λ id. has_rowid id r ≡ false) (numbers_of hit rows) (misses hit rows rows r sound there no' (λ x has. has))))) ∙ sym no'

-- ---- distinct rowids, by an ascending list of numbers

past_number : (m n : ℤ) (ids : List ℤ) → int_cmp m n ≡ Equal → AllByRecursion (λ k. int_cmp n k ≡ Less) ids → AllByRecursion (λ k. is_eq (int_cmp m k) ≡ false) ids
past_number m n [] e all = tt
past_number m n (k ∷ ids) e all = (ap is_eq (int_cmp_total.congr m n k e ∙ all.0), past_number m n ids e all.1)

one_number : (m : ℤ) (ids : List ℤ) → IsAscending (λ a b. int_cmp a b ≡ Less) ids → length (filter (λ k. is_eq (int_cmp m k)) ids) ≤ 1
one_number m [] up = omega arith
one_number m (n ∷ ids) up = go (int_cmp m n) refl (one_number m ids up.1)
  where
    go : (c : Ordering) → int_cmp m n ≡ c → length (filter (λ k. is_eq (int_cmp m k)) ids) ≤ 1 → length (cond (is_eq c) (n ∷ filter (λ k. is_eq (int_cmp m k)) ids) (filter (λ k. is_eq (int_cmp m k)) ids)) ≤ 1
    go Less p more = more
    go Greater p more = more
    go Equal p more = let none = ap length (filter_none (λ k. is_eq (int_cmp m k)) ids (past_number m n ids p up.0)) in omega (arith, none)

ints_all : (ids : List ℤ) → AllByRecursion (λ v. is_int v ≡ true) (map (λ n. Int n) ids)
ints_all [] = tt
ints_all (n ∷ ids) = (refl, ints_all ids)

pub pair_apart : (rows : List Row) → AreApart rows → PairApart rows
pair_apart rows it = record { numbers = λ r h. number r h; apart = pair }
  where
    number : (r : Row) → Has rows r → is_int (rowid r) ≡ true
    number r h = all_there (λ r. is_int (rowid r) ≡ true) rows (all_unmap (λ v. is_int v ≡ true) rowid rows (recursion_from_All (λ v. is_int v ≡ true) (map rowid rows) (All-permutation (λ v. is_int v ≡ true) (map (λ n. Int n) it.0) (map rowid rows) it.2 (All-from_recursion (λ v. is_int v ≡ true) (map (λ n. Int n) it.0) (ints_all it.0))))) r h

    pair : (a b : Row) → Has rows a → Has rows b → is_eq (value_cmp (rowid a) (rowid b)) ≡ true → a ≡ b
    pair a b h k e =
        let m = id_in (rowid a) in
        let is : rowid a ≡ Int m = int_is (rowid a) (number a h) in
        let q = λ (v : Value). is_eq (value_cmp (rowid a) v) in
        let moved = length_permutation _ _ (IsPermutation-filter q _ _ it.2) in
        let mine = ap length (filter-map q (λ n. Int n) it.0) in
        let theirs = ap length (filter-map q rowid rows) in
        let short : length (map (λ n. Int n) (filter (λ n. q (Int n)) it.0)) ≡ length (filter (λ n. q (Int n)) it.0) = length-map (filter (λ n. q (Int n)) it.0) (λ n. Int n) in
        let long : length (map rowid (filter (λ r. q (rowid r)) rows)) ≡ length (filter (λ r. q (rowid r)) rows) = length-map (filter (λ r. q (rowid r)) rows) rowid in
        let same : filter (λ n. q (Int n)) it.0 ≡ filter (λ k. is_eq (int_cmp m k)) it.0 = filter_alike (λ n. q (Int n)) (λ k. is_eq (int_cmp m k)) (λ n. ap is_eq (ap (λ v. value_cmp v (Int n)) is ∙ value_cmp-Int m n)) it.0 in
        let few = one_number m it.0 it.1 in
        let count = ap length same in
        alone (filter (λ r. q (rowid r)) rows) a b (omega (arith, moved, mine, theirs, short, long, few, count)) (has_filtered (λ r. q (rowid r)) rows a h (ap is_eq (tied_itself value_cmp_total (rowid a)))) (has_filtered (λ r. q (rowid r)) rows b k e)

-- Filtering keeps the rowids distinct.
pub apart_kept : (p : Row → Bool) (rows : List Row) → AreApart rows → AreApart (filter p rows)
apart_kept p rows it = (
  filter (λ n. q (Int n)) it.0,
  ascending-filter (λ a b. int_cmp a b ≡ Less) (λ n. q (Int n)) it.0 it.1,
  subst₂ (λ a b. IsPermutation a b) (filter-map q (λ n. Int n) it.0) (filter-map q rowid rows ∙ ap (map rowid) (filter_on (λ r. q (rowid r)) p rows (λ r h. kept r h (cases_Bool (p r)) (cases_Bool (q (rowid r))))))
      (IsPermutation-filter q _ _ it.2),
)
  where
    pairs : PairApart rows
    pairs = pair_apart rows it

    q : Value → Bool
    q v = list_any (λ r. p r && is_eq (value_cmp (rowid r) v)) rows

    any_there : (t : Row → Bool) (xs : List Row) (r : Row) → Has xs r → t r ≡ true → list_any t xs ≡ false → ⊥
    any_there t [] r h e none = h
    any_there t (x ∷ xs) r (inl same) e none = let here = ap t (sym same) ∙ e in absurd (let no' = sym (rw here at (ap (λ b. b) none)) in cc)
    any_there t (x ∷ xs) r (inr h) e none = any_there t xs r h e (rest (t x) none)
      where
        rest : (b : Bool) → (b || list_any t xs) ≡ false → list_any t xs ≡ false
        rest true e = cc
        rest false e = e

    none_there : (t : Row → Bool) (xs : List Row) → ((x : Row) → Has xs x → t x ≡ false) → list_any t xs ≡ false
    none_there t [] each = refl
    none_there t (x ∷ xs) each = rw (each x (inl refl)) (none_there t xs (λ y h. each y (inr h)))

    free_and : (a b : Bool) → b ≡ false → (a && b) ≡ false
    free_and true b e = e
    free_and false b e = refl

    kept : (r : Row) → Has rows r → (p r ≡ true) ⊎ (p r ≡ false) → (q (rowid r) ≡ true) ⊎ (q (rowid r) ≡ false) → q (rowid r) ≡ p r
    kept r h (inl good) (inl found) = found ∙ sym good
    kept r h (inl good) (inr none) = absurd (any_there (λ x. p x && is_eq (value_cmp (rowid x) (rowid r))) rows r h (rw (good, tied_itself value_cmp_total (rowid r))) none)
    kept r h (inr no') found = none_there (λ x. p x && is_eq (value_cmp (rowid x) (rowid r))) rows (λ x there. each x there (cases_Bool (is_eq (value_cmp (rowid x) (rowid r))))) ∙ sym no'
      where
        each : (x : Row) → Has rows x → (is_eq (value_cmp (rowid x) (rowid r)) ≡ true) ⊎ (is_eq (value_cmp (rowid x) (rowid r)) ≡ false) → (p x && is_eq (value_cmp (rowid x) (rowid r))) ≡ false
        each x there (inl tie) = let same = pairs.apart x r there h tie in rw (ap p same ∙ no')
        each x there (inr free) = free_and (p x) _ free
