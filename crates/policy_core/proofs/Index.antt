-- A binary search in a sorted list of texts.
use Rattle.std.specs.Prelude.{◌≡◌, ℕ, Bool, List, [], ◌∷◌, map, length, Result, Ok, Err, refl}
use Rattle.std.specs.List.{list_any}
use Rattle.std.specs.List.Sorted.{IsSorted, IsBinarySearchResult, IsSearchInRange}
use Rattle.std.specs.Ordering.{nat_cmp, is_eq, ordering_reverse}
use Rattle.std.specs.Result.{is_ok}
use Rattle.std.specs.Cmp.Lexicographic.{slice_cmp, texts_ties}
use Rattle.std.specs.declared.cmp.Ordering.{Ordering}
use Rattle.std.specs.declared.cmp.Ordering.TheVariants.{Less, Equal, Greater}
use Rattle.std.proofs.Common.{arith, sym, ap, ◌∙◌, get_or, Bor, ◌||◌, inl, inr}
use Rattle.std.proofs.lemmas.Bool.{cases_lt}
use Rattle.std.proofs.lemmas.Cmp.{nat_list_cmp_total}
use Rattle.std.proofs.lemmas.List.Folds.{list_any_at, list_any_none}
use Rattle.std.proofs.lemmas.List.Sorted.{searchable_from_sorted}
use Rattle.entity_core.specs.IdTexts.{same_text}
use Rattle.policy_core.specs.Missing.{in_key}

-- Two texts are the same exactly if they compare as equal.
same_by : (text sought : List ℕ) (o : Ordering) → slice_cmp nat_cmp text sought ≡ o → same_text sought text ≡ is_eq (ordering_reverse o)
same_by text sought o e = texts_ties sought text ∙ (ap is_eq (nat_list_cmp_total.antisymm sought text) ∙ ap (λ (x : Ordering). is_eq (ordering_reverse x)) e)

-- Testing what is read from each element equals testing the list of what is read.
any_read : {X Y : Type 0} (test : Y → Bool) (read : X → Y) (xs : List X) → list_any (λ x. test (read x)) xs ≡ list_any test (map read xs)
any_read test read [] = refl
any_read test read (x ∷ xs) = ap (λ b. test (read x) || b) (any_read test read xs)

-- The search finds a text exactly if the list has it.
pub searched : (texts : List (Bor (List ℕ))) (sought : Bor (List ℕ)) (r : Result ℕ ℕ) → IsSorted (λ x y. slice_cmp nat_cmp x.now y.now) texts → IsSearchInRange r (length texts)
    → IsBinarySearchResult (λ t. slice_cmp nat_cmp t.now sought.now) texts r → is_ok r ≡ in_key (map (λ t. t.now) texts) sought.now
searched texts sought (Ok i) up within found =
    sym (list_any_at (λ t. same_text sought.now t.now) texts i sought within (same_by (get_or texts i sought).now sought.now Equal (found sought)))
    ∙ any_read (same_text sought.now) (λ t. t.now) texts
searched texts sought (Err i) up within found =
    let parts = found (searchable_from_sorted nat_list_cmp_total (λ t. t.now) texts sought.now up) in
    sym (list_any_none (λ t. same_text sought.now t.now) texts (λ k d h. elim (cases_lt k i) [
      | inl below ↦ same_by (get_or texts k d).now sought.now Less (parts.0 k d (omega arith) below)
      | inr above ↦ same_by (get_or texts k d).now sought.now Greater (parts.1 k d above h)
    ]))
    ∙ any_read (same_text sought.now) (λ t. t.now) texts
