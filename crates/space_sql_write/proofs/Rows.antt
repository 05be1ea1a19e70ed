-- Lemmas that relate typed rows to the rows of a table.
use Rattle.std.proofs.Common.{◌≡◌, ℤ, List, [], ◌∷◌, map, filter, not, ◌&&◌, Bool, true, false, cond, refl, ap, subst₂, ◌∙◌, int_eq}
use Rattle.std.specs.Prelude.{IsPermutation}
use Rattle.std.specs.List.{AllByRecursion}
use Rattle.std.proofs.lemmas.List.Sorted.{All-permutation}
use Rattle.std.proofs.lemmas.List.Elements.{All-from_recursion, recursion_from_All}
use Rattle.sqlite_keyed.proofs.ListLemmas.{IsPermutation-filter, filter-map, all_unmap, filter_same}
use Rattle.sqlite_tied.proofs.RuleLemmas.{and_true}
use Rattle.sqlite_typed.proofs.TestLemmas.{at_ints}
use Rattle.sqlite_sql.specs.declared.ops.BinaryOp.TheVariants.{Compare}
use Rattle.sqlite_sql.specs.declared.ops.CompareOp.TheVariants.{Eq}
use Rattle.sqlite_sql.specs.Ops.{binary, is_true}
use Rattle.sqlite_value.specs.declared.keys.Collation.TheVariants.{Binary}
use Rattle.sqlite.specs.declared.types.Value.TheVariants.{Int}
use Rattle.sqlite.specs.Order.{Row, column}
use Rattle.std.proofs.Common.{ℕ}
use Rattle.space_sql_write.specs.Layout.{AreRows}
use Rattle.space_sql_write.proofs.Clear.{apart_kept}

-- A property of the image of each element holds for the mapped list.
pub all_mapped : {X Y : Type 0} (P : Y → Type 0) (f : X → Y) (xs : List X) → AllByRecursion (λ x. P (f x)) xs → AllByRecursion P (map f xs)
all_mapped P f [] all = tt
all_mapped P f (x ∷ xs) all = (all.0, all_mapped P f xs all.1)

module _ {R : Type 0} (encode : R → Row) (columns : Row → Row) (rs : List R) (rows : List Row) (same : IsPermutation (map encode rs) (map columns rows)) where
  -- A property of each typed row holds for each row.
  pub rows_all : (P : Row → Type 0) → AllByRecursion (λ r. P (encode r)) rs → AllByRecursion (λ r. P (columns r)) rows
  rows_all P all = all_unmap P columns rows (recursion_from_All P (map columns rows) (All-permutation P (map encode rs) (map columns rows) same (All-from_recursion P (map encode rs) (all_mapped P encode rs all))))

  -- The typed rows that pass are those of the rows that pass.
  pub rows_passing : (test : Row → Bool) (passes : R → Bool) → ((r : R) → test (encode r) ≡ passes r) → IsPermutation (map encode (filter passes rs)) (map columns (filter (λ r. test (columns r)) rows))
  rows_passing test passes agree = subst₂ (λ a b. IsPermutation a b) (filter-map test encode rs ∙ ap (map encode) (filter_same (λ r. test (encode r)) passes agree rs)) (filter-map test columns rows) (IsPermutation-filter test _ _ same)

-- ---- the rows with a number

-- The test `column = ?1`, as it is computed.
abbrev pub bears : ℕ → ℤ → Row → Bool
bears place num r = is_true (binary (Compare Eq Binary) (column r place) (Int num)) && true

pub bears_number : (m num : ℤ) → (is_true (binary (Compare Eq Binary) (Int m) (Int num)) && true) ≡ int_eq m num
bears_number m num = and_true _ ∙ at_ints false Eq m num

module _ {R : Type 0} (encode : R → Row) (columns : Row → Row) (rs : List R) (rows : List Row) (has : AreRows encode columns rs rows) where
  -- If only the rows that pass remain, they are those of the typed rows that pass.
  pub some_left : (test : Row → Bool) (passes : R → Bool) → ((r : R) → test (encode r) ≡ passes r) → AreRows encode columns (filter passes rs) (filter (λ r. test (columns r)) rows)
  some_left test passes agree = record { same = rows_passing encode columns rs rows has.same test passes agree; apart = apart_kept (λ r. test (columns r)) rows has.apart }

module _ {R : Type 0} (place : ℕ) (encode : R → Row) (key : R → ℤ) (at : (r : R) → column (encode r) place ≡ Int (key r)) (columns : Row → Row) (rs : List R) (rows : List Row) (has : AreRows encode columns rs rows) where
  bears_key : (num : ℤ) (r : R) → bears place num (encode r) ≡ int_eq (key r) num
  bears_key num r = ap (λ v. is_true (binary (Compare Eq Binary) v (Int num)) && true) (at r) ∙ bears_number (key r) num

  -- The remaining rows are those of the typed rows without the number.
  pub rows_left : (num : ℤ) → AreRows encode columns (filter (λ r. not (int_eq (key r) num)) rs) (filter (λ r. not (bears place num (columns r))) rows)
  rows_left num = some_left encode columns rs rows has (λ c. not (bears place num c)) (λ r. not (int_eq (key r) num)) (λ r. ap not (bears_key num r))

  -- The rows with the number are those of the typed rows with it.
  pub rows_of : (num : ℤ) → IsPermutation (map encode (filter (λ r. int_eq (key r) num) rs)) (map columns (filter (λ r. bears place num (columns r)) rows))
  rows_of num = rows_passing encode columns rs rows has.same (bears place num) (λ r. int_eq (key r) num) (bears_key num)

  every_numbered : (xs : List R) → AllByRecursion (λ r. (k : ℤ) × (column (encode r) place ≡ Int k)) xs
  every_numbered [] = tt
  every_numbered (x ∷ xs) = ((key x, at x), every_numbered xs)

  -- Each row has a number in the column.
  pub rows_numbered : AllByRecursion (λ r. (k : ℤ) × (column (columns r) place ≡ Int k)) rows
  rows_numbered = rows_all encode columns rs rows has.same (λ c. (k : ℤ) × (column c place ≡ Int k)) (every_numbered rs)

  abbrev IsOther : ℤ → Row → Type 0
  IsOther num c = is_true (binary (Compare Eq Binary) (column c place) (Int num)) ≡ false

  every_other : (num : ℤ) (xs : List R) → AllByRecursion (λ r. int_eq (key r) num ≡ false) xs → AllByRecursion (λ r. IsOther num (encode r)) xs
  every_other num [] all = tt
  every_other num (x ∷ xs) all = (ap (λ v. is_true (binary (Compare Eq Binary) v (Int num))) (at x) ∙ (at_ints false Eq (key x) num ∙ all.0), every_other num xs all.1)

  -- If no typed row has the number, no row has it.
  pub rows_other : (num : ℤ) → AllByRecursion (λ r. int_eq (key r) num ≡ false) rs → AllByRecursion (λ r. IsOther num (columns r)) rows
  rows_other num all = rows_all encode columns rs rows has.same (IsOther num) (every_other num rs all)

-- The remaining rows do not have the number.
pub none_left_of : {R : Type 0} (key : R → ℤ) (num : ℤ) (rs : List R) → AllByRecursion (λ r. int_eq (key r) num ≡ false) (filter (λ r. not (int_eq (key r) num)) rs)
none_left_of key num [] = tt
none_left_of {R} key num (r ∷ rs) = go (int_eq (key r) num) refl (none_left_of key num rs)
  where
    go : (b : Bool) → int_eq (key r) num ≡ b → AllByRecursion (λ x. int_eq (key x) num ≡ false) (filter (λ x. not (int_eq (key x) num)) rs)
        → AllByRecursion (λ x. int_eq (key x) num ≡ false) (cond (not b) (r ∷ filter (λ x. not (int_eq (key x) num)) rs) (filter (λ x. not (int_eq (key x) num)) rs))
    go true e more = more
    go false e more = (e, more)
