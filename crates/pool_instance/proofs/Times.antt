-- Lemmas: how often a number is in a list, and edits of lists.
use Rattle.std.proofs.Common.{◌≡◌, ◌==◌, ℕ, zero, suc, ◌+◌, ◌≤◌, ◌⊎◌, Bool, true, false, List, [], ◌∷◌, ◌++◌, length, map, drop, refl, sym, ap, ◌∙◌, arith, inl, inr, append_assoc, length-append}
use Rattle.std.specs.Prelude.{All, Contains}
use Rattle.std.specs.List.{remove}
use Rattle.std.proofs.lemmas.List.{drop_at, map-append, take_at}
use Rattle.std.proofs.lemmas.List.Elements.{All-contains_itself, All-weaker, Contains-append_cases, Contains-append_left, Contains-append_right}
use Rattle.pool_core.specs.Serves.{times}
use Rattle.pool_core.proofs.Lists.{contains_at, contains_head, contains_none, contains_one, contains_same, contains_split, count_append, count_no, count_yes}
use Rattle.pool_core.proofs.Projections.{same_number}

-- ---- counts

pub times_append : (n : ℕ) (xs ys : List ℕ) → times n (xs ++ ys) ≡ times n xs + times n ys
times_append n xs ys = count_append (λ k. n == k) xs ys

pub times_own : (n : ℕ) (xs : List ℕ) → times n (n ∷ xs) ≡ suc (times n xs)
times_own n xs = count_yes (λ k. n == k) n xs (same_number n)

pub times_one : (n : ℕ) → times n (n ∷ []) ≡ 1
times_one n = times_own n []

times_case : (n k : ℕ) (b : Bool) → (n == k) ≡ b → (n ≡ k) ⊎ (times n (k ∷ []) ≡ 0)
times_case n k true is = inl (grind (arith, is))
times_case n k false is = inr (count_no (λ v. n == v) k [] is)

-- A number is another, or is not in the list of it.
pub same_or_none : (n k : ℕ) → (n ≡ k) ⊎ (times n (k ∷ []) ≡ 0)
same_or_none n k = times_case n k (n == k) refl

pub times_cons : (n k : ℕ) (xs : List ℕ) → times n (k ∷ xs) ≡ times n (k ∷ []) + times n xs
times_cons n k xs = times_append n (k ∷ []) xs

pub contains_times : (n : ℕ) (xs : List ℕ) → Contains xs n → 1 ≤ times n xs
contains_times n xs h =
    let s = contains_split xs n h in
    let e : times n xs ≡ times n s.front + times n (n ∷ s.back) = ap (λ v. times n v) s.split ∙ times_append n s.front (n ∷ s.back) in
    omega (arith, e, times_own n s.back)

times_contains_case : (n k : ℕ) (xs : List ℕ) → (1 ≤ times n xs → Contains xs n) → 1 ≤ times n (k ∷ xs) → (n ≡ k) ⊎ (times n (k ∷ []) ≡ 0) → Contains (k ∷ xs) n
times_contains_case n k xs rest some (inl e) = contains_same (k ∷ xs) (n ∷ xs) n (ap (λ v. v ∷ xs) (sym e)) (contains_head n xs)
times_contains_case n k xs rest some (inr none) = Contains-append_right (k ∷ []) xs n (rest (omega (arith, some, none, times_cons n k xs)))

pub times_contains : (n : ℕ) (xs : List ℕ) → 1 ≤ times n xs → Contains xs n
times_contains n [] some = absurd (omega (arith, some))
times_contains n (k ∷ xs) some = times_contains_case n k xs (λ h. times_contains n xs h) some (same_or_none n k)

-- Some or none.
pub some_or_none : (n : ℕ) → (1 ≤ n) ⊎ (n ≡ 0)
some_or_none zero = inr refl
some_or_none (suc n) = inl (omega arith)

pub both : (b : Bool) → b ≡ true → b ≡ false → ⊥
both b h k = cc

-- ---- elements

pub all_from_contains : {X : Type 0} (P : X → Type 0) (xs : List X) → ((x : X) → Contains xs x → P x) → All P xs
all_from_contains P xs h = All-weaker (Contains xs) P h xs (All-contains_itself xs)

-- An element of a list of images.
pub record ImageOf {X Y : Type 0} (f : X → Y) (xs : List X) (y : Y) : Type 0 where
  pub one : X
  pub there : Contains xs one
  pub same : f one ≡ y

pub image_of : {X Y : Type 0} (f : X → Y) (xs : List X) (y : Y) → Contains (map f xs) y → ImageOf f xs y
image_of f [] y h = contains_none y h
image_of f (x ∷ xs) y h = elim (Contains-append_cases (f x ∷ []) (map f xs) y h) [
  | inl here ↦ record { one = x; there = contains_head x xs; same = contains_one (f x) y here }
  | inr there ↦ let o = image_of f xs y there in record { one = o.one; there = Contains-append_right (x ∷ []) xs o.one o.there; same = o.same }
]

pub image_in : {X Y : Type 0} (f : X → Y) (xs : List X) (x : X) → Contains xs x → Contains (map f xs) (f x)
image_in f xs x h =
    let s = contains_split xs x h in
    contains_same (map f xs) (map f s.front ++ f x ∷ map f s.back) (f x) (ap (λ v. map f v) s.split ∙ map-append f s.front (x ∷ s.back)) (contains_at (map f s.front) (f x) (map f s.back))

-- ---- a removed element

pub remove_split : {X : Type 0} (front : List X) (x : X) (back : List X) (n : ℕ) → length front ≡ n → remove (front ++ x ∷ back) n ≡ front ++ back
remove_split front x back n at =
    let long : length (front ++ x ∷ []) ≡ suc n = omega (arith, length-append front (x ∷ []), at) in
    ap (λ v. v ++ drop (suc n) (front ++ x ∷ back)) (take_at front (x ∷ back) n at)
    ∙ ap (λ v. front ++ drop (suc n) v) (sym (append_assoc front (x ∷ []) back))
    ∙ ap (λ v. front ++ v) (drop_at (front ++ x ∷ []) back (suc n) long)

pub contains_rest : {X : Type 0} (front : List X) (x : X) (back : List X) (y : X) → Contains (front ++ back) y → Contains (front ++ x ∷ back) y
contains_rest front x back y h = elim (Contains-append_cases front back y h) [
  | inl l ↦ Contains-append_left front (x ∷ back) y l
  | inr r ↦ Contains-append_right front (x ∷ back) y (Contains-append_right (x ∷ []) back y r)
]

pub times_rest : {X : Type 0} (n : ℕ) (f : X → ℕ) (front : List X) (x : X) (back : List X) → times n (map f (front ++ back)) + times n (f x ∷ []) ≡ times n (map f (front ++ x ∷ back))
times_rest n f front x back =
    let one = ap (λ v. times n v) (map-append f front back) ∙ times_append n (map f front) (map f back) in
    let all = ap (λ v. times n v) (map-append f front (x ∷ back)) ∙ times_append n (map f front) (f x ∷ map f back) in
    omega (arith, one, all, times_cons n (f x) (map f back))
