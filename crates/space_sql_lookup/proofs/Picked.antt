-- Proofs about a SELECT of some columns of a table's values, and about finding an element by a
-- number.
use Rattle.std.proofs.Common.{◌≡◌, ◌≢◌, ◌⊎◌, inl, inr, ℕ, ℤ, List, [], ◌∷◌, map, filter, flat_map, Bool, true, false, refl, sym, ap, subst, subst₂, ◌∙◌, int_eq, arith}
use Rattle.std.specs.Prelude.{IsPermutation}
use Rattle.std.specs.List.{list_all}
use Rattle.std.proofs.lemmas.Int.{ints}
use Rattle.std.proofs.lemmas.List.Sorted.{IsPermutation-map, IsPermutation-trans, length_permutation}
use Rattle.sqlite_keyed.proofs.ListLemmas.{map-map, map_same, filter-map, filter_none, filter_same, IsPermutation-filter}
use Rattle.sqlite_rules.specs.Lists.{Has}
use Rattle.sqlite_rules.proofs.ListLemmas.{all_from}
use Rattle.sqlite_trees.specs.Tree.{Trees}
use Rattle.sqlite.specs.Order.{Row}
use Rattle.sqlite.specs.Term.{Term, eval_all, holds}
use Rattle.sqlite.specs.Program.{overlay}
use Rattle.sqlite.proofs.Callers.{one_permutation}
use Rattle.sqlite_sql.specs.Query.{IsAnswer}
use Rattle.space_rows.proofs.Chunks.{Borne, Differ}
use Rattle.space_sql_select.proofs.Means.{listing, cols}
use Rattle.space_sql_select.proofs.Selected.{selects_all}
use Rattle.space_sql_lookup.proofs.OwnRows.{own_of, equal_numbers, other_numbers}

-- Tests and columns that read the columns of a table read the values that it stores.
pub selects_from : (t : ℕ) (tests : List Term) (shown : List ℕ) (db : Trees) (params : Row) (rows : List Row) → overlay db [] t ≡ db t → IsAnswer (listing t tests shown []) (overlay db []) params rows
    → {X : Type 0} (values : X → Row) (columns : Row → Row) (test : Row → Bool) (pick : Row → Row) (passes : X → Bool) → ((r : Row) → list_all (holds (params ∷ r ∷ [])) tests ≡ test (columns r)) → ((r : Row) → eval_all (cols shown) (params ∷ r ∷ []) ≡ pick (columns r)) → ((x : X) → test (values x) ≡ passes x)
    → (xs : List X) → IsPermutation (map values xs) (map columns (db t)) → IsPermutation (map (λ x. pick (values x)) (filter passes xs)) rows
selects_from t tests shown db params rows here a values columns test pick passes tested picked passed xs same =
    let all = selects_all t tests shown [] db params rows here a in
    let mine = map_same (λ r. eval_all (cols shown) (params ∷ r ∷ [])) (λ r. pick (columns r)) picked (filter (λ r. list_all (holds (params ∷ r ∷ [])) tests) (db t))
    ∙ (ap (map (λ r. pick (columns r))) (filter_same (λ r. list_all (holds (params ∷ r ∷ [])) tests) (λ r. test (columns r)) tested (db t))
    ∙ (sym (map-map pick columns (filter (λ r. test (columns r)) (db t))) ∙ ap (map pick) (sym (filter-map test columns (db t))))) in
    let stored = IsPermutation-map pick _ _ (IsPermutation-filter test _ _ same) in
    let theirs = ap (map pick) (filter-map test values xs) ∙ (map-map pick values (filter (λ x. test (values x)) xs) ∙ ap (map (λ x. pick (values x))) (filter_same (λ x. test (values x)) passes passed xs)) in
    IsPermutation-trans _ _ _ (subst₂ (λ l m. IsPermutation l m) theirs (sym mine) stored) all

pub nothing_left : {X : Type 0} (l : List X) → IsPermutation [] l → l ≡ []
nothing_left [] p = refl
nothing_left (r ∷ l) p = absurd (let e = length_permutation _ _ p in cc)

-- ---- by a number

each_its_own : {X : Type 0} (of : X → ℤ) (xs : List X) → Borne of of (λ (x : X). x ∷ []) xs
each_its_own of [] = tt
each_its_own of (x ∷ xs) = ((refl, tt), each_its_own of xs)

singles : {X : Type 0} (xs : List X) → flat_map (λ x. x ∷ []) xs ≡ xs
singles [] = refl
singles (x ∷ xs) = ap (λ l. x ∷ l) (singles xs)

module _ {X : Type 0} (of : X → ℤ) (num : ℤ) where
  -- Either an element has the number, or none does.
  pub has_or_not : (xs : List X) → ((x : X) → Has xs x → of x ≢ num) ⊎ ((x : X) × Has xs x × (of x ≡ num))
  has_or_not [] = inl (λ x there. absurd there)
  has_or_not (y ∷ xs) = go (int_eq (of y) num) refl (has_or_not xs)
    where
      go : (b : Bool) → int_eq (of y) num ≡ b → ((x : X) → Has xs x → of x ≢ num) ⊎ ((x : X) × Has xs x × (of x ≡ num)) → ((x : X) → Has (y ∷ xs) x → of x ≢ num) ⊎ ((x : X) × Has (y ∷ xs) x × (of x ≡ num))
      go true e more = inr (y, inl refl, (let same : of y ≡ num = grind (arith, ints, e) in same))
      go false e (inr found) = inr (found.0, inr found.1, found.2)
      go false e (inl none) = inl (λ x there. elim there as (λ _. of x ≢ num) [
        | inl is ↦ λ same. absurd (let both = equal_numbers (of y) num (ap of (sym is) ∙ same) in let no = sym both ∙ e in cc)
        | inr more ↦ none x more
      ])

  module _ (shown : X → Row) (xs : List X) (rows : List Row) (same : IsPermutation (map shown (filter (λ x. int_eq (of x) num) xs)) rows) where
    -- If an element has the number, its row is shown.
    pub one_shown : Differ of xs → (x : X) → Has xs x → of x ≡ num → rows ≡ shown x ∷ []
    one_shown apart x there is =
        let own = own_of of of (λ (y : X). y ∷ []) xs x (each_its_own of xs) apart there in
        let one : filter (λ y. int_eq (of y) num) xs ≡ x ∷ [] = subst (λ (n : ℤ). filter (λ y. int_eq (of y) n) xs ≡ x ∷ []) is (ap (filter (λ y. int_eq (of y) (of x))) (sym (singles xs)) ∙ own) in
        one_permutation (shown x) rows (subst (λ (l : List X). IsPermutation (map shown l) rows) one same)

    pub none_shown : ((x : X) → Has xs x → of x ≢ num) → rows ≡ []
    none_shown none =
        let no : filter (λ x. int_eq (of x) num) xs ≡ [] = filter_none (λ x. int_eq (of x) num) xs (all_from (λ x. int_eq (of x) num ≡ false) xs (λ x there. other_numbers (of x) num (none x there))) in
        nothing_left rows (subst (λ (l : List X). IsPermutation (map shown l) rows) no same)
