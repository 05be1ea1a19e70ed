-- Lists sorted by key, and their maps. Each element gives a pair: its key and its value.
use Rattle.std.specs.Prelude.{◌≡◌, ℕ, suc, ◌<◌, ◌≤◌, T, List, [], ◌∷◌, ◌++◌, map, length, take, drop, slice_get, Some}
use Rattle.std.specs.declared.cmp.Ordering.{Ordering}
use Rattle.std.specs.declared.cmp.Ordering.TheVariants.{Less, Equal, Greater}
use Rattle.std.specs.FinMap.{FinMap, from_entries}
use Rattle.std.specs.FinMap.Entries.{is_sorted}

-- The pairs of a list.
abbrev pub keyed : {A K X : Type 0} → (A → K × X) → List A → List (K × X)
keyed pair xs = map pair xs

-- Holds if the keys are strictly ascending.
abbrev pub Rise : {A K X : Type 0} → (K → K → Ordering) → (A → K × X) → List A → Type 0
Rise R pair xs = T (is_sorted R (keyed pair xs))

-- The map of a list.
abbrev pub map_of : {A K X : Type 0} (R : K → K → Ordering) → (A → K × X) → List A → FinMap R X
map_of R pair xs = from_entries {R = R} (keyed pair xs)

-- Holds if the key of each element is below k.
abbrev pub AllBelow : {A K X : Type 0} (R : K → K → Ordering) (pair : A → K × X) → K → List A
    → Type 0
AllBelow R pair k [] = Unit {0}
AllBelow R pair k (x ∷ xs) = (R (pair x).0 k ≡ Less) × AllBelow R pair k xs

-- Holds if the list is empty or its first key is above k.
abbrev pub StartsAbove : {A K X : Type 0} (R : K → K → Ordering) (pair : A → K × X) → K → List A
    → Type 0
StartsAbove R pair k [] = Unit {0}
StartsAbove R pair k (x ∷ xs) = R (pair x).0 k ≡ Greater

-- Holds if the element at index i has key k.
pub record Hit {A K X : Type 0} (R : K → K → Ordering) (pair : A → K × X) (xs : List A) (k : K)
    (i : ℕ) : Type 0 where
  pub within : i < length xs
  pub element : A
  pub at : slice_get xs i ≡ Some element
  pub split : xs ≡ take i xs ++ element ∷ drop (suc i) xs
  pub below : AllBelow R pair k (take i xs)
  pub level : R (pair element).0 k ≡ Equal

-- Holds if no element has key k and index i is the place to insert it.
pub record Gap {A K X : Type 0} (R : K → K → Ordering) (pair : A → K × X) (xs : List A) (k : K)
    (i : ℕ) : Type 0 where
  pub within : i ≤ length xs
  pub below : AllBelow R pair k (take i xs)
  pub above : StartsAbove R pair k (drop i xs)
