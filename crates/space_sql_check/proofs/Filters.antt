-- Lemmas about the elements of a list that pass a test.
use Rattle.std.proofs.Common.{◌≡◌, List, [], ◌∷◌, ◌++◌, map, filter, flat_map, Bool, true, false, not, ◌||◌, cond, refl, sym, ap, ap₂, subst, ◌∙◌}
use Rattle.std.specs.Prelude.{IsPermutation}
use Rattle.std.specs.List.{AllByRecursion}
use Rattle.std.proofs.lemmas.List.Sorted.{IsPermutation-cons, IsPermutation-middle, IsPermutation-refl, IsPermutation-trans, All-permutation}
use Rattle.std.proofs.lemmas.List.Elements.{All-from_recursion, recursion_from_All}

module _ {X : Type 0} (p q r : X → Bool) (joins : (x : X) → r x ≡ (p x || q x)) (apart : (x : X) → p x ≡ true → q x ≡ false) where
  -- Two tests split the elements that pass one of them, if no element passes both.
  pub filters_join : (xs : List X) → IsPermutation (filter p xs ++ filter q xs) (filter r xs)
  filters_join [] = IsPermutation-refl []
  filters_join (x ∷ xs) = go (p x) (q x) refl refl (filters_join xs)
    where
      both : (a b : Bool) → p x ≡ a → q x ≡ b → r x ≡ (a || b)
      both a b e f = joins x ∙ ap₂ ◌||◌ e f

      go : (a b : Bool) → p x ≡ a → q x ≡ b → IsPermutation (filter p xs ++ filter q xs) (filter r xs)
          → IsPermutation (cond (p x) (x ∷ filter p xs) (filter p xs) ++ cond (q x) (x ∷ filter q xs) (filter q xs)) (cond (r x) (x ∷ filter r xs) (filter r xs))
      go true true e f more = absurd (let no = sym f ∙ apart x e in cc)
      go true false e f more = rw (e, f, both true false e f) (IsPermutation-cons x _ _ more)
      go false true e f more = rw (e, f, both false true e f) (IsPermutation-trans _ _ _ (IsPermutation-middle (filter p xs) x (filter q xs)) (IsPermutation-cons x _ _ more))
      go false false e f more = rw (e, f, both false false e f) more

pub all_moved : {X : Type 0} (P : X → Type 0) (xs ys : List X) → IsPermutation xs ys → AllByRecursion P xs → AllByRecursion P ys
all_moved P xs ys same all = recursion_from_All P ys (All-permutation P xs ys same (All-from_recursion P xs all))

pub filter_passes : {X : Type 0} (p : X → Bool) (xs : List X) → AllByRecursion (λ x. p x ≡ true) (filter p xs)
filter_passes p [] = tt
filter_passes p (x ∷ xs) = go (p x) refl (filter_passes p xs)
  where
    go : (b : Bool) → p x ≡ b → AllByRecursion (λ x. p x ≡ true) (filter p xs) → AllByRecursion (λ x. p x ≡ true) (cond b (x ∷ filter p xs) (filter p xs))
    go true e more = (e, more)
    go false e more = more

pub map_joined : {X Y : Type 0} (f : X → Y) (xs ys : List X) → map f (xs ++ ys) ≡ map f xs ++ map f ys
map_joined f [] ys = refl
map_joined f (x ∷ xs) ys = ap (λ l. f x ∷ l) (map_joined f xs ys)

-- The lists of the elements that pass are the sublist of all lists that passes.
module _ {A B : Type 0} (p : A → Bool) (q : B → Bool) (f : A → List B) where
  pub parts_pass : (xs : List A) → AllByRecursion (λ a. AllByRecursion (λ b. q b ≡ p a) (f a)) xs → flat_map f (filter p xs) ≡ filter q (flat_map f xs)
  parts_pass [] all = refl
  parts_pass (x ∷ xs) all = go (p x) refl all.0 (parts_pass xs all.1) ∙ sym (filter_joined (f x) (flat_map f xs))
    where
      filter_joined : (ys zs : List B) → filter q (ys ++ zs) ≡ filter q ys ++ filter q zs
      filter_joined [] zs = refl
      filter_joined (y ∷ ys) zs = elim (q y) as (λ b. cond b (y ∷ filter q (ys ++ zs)) (filter q (ys ++ zs)) ≡ cond b (y ∷ filter q ys) (filter q ys) ++ filter q zs) [ true ↦ ap (λ l. y ∷ l) (filter_joined ys zs) | false ↦ filter_joined ys zs ]

      each : (b : Bool) (ys : List B) → AllByRecursion (λ y. q y ≡ b) ys → filter q ys ≡ cond b ys []
      each true [] all = refl
      each false [] all = refl
      each true (y ∷ ys) all = rw all.0 (ap (λ l. y ∷ l) (each true ys all.1))
      each false (y ∷ ys) all = rw all.0 (each false ys all.1)

      go : (b : Bool) → p x ≡ b → AllByRecursion (λ y. q y ≡ p x) (f x) → flat_map f (filter p xs) ≡ filter q (flat_map f xs)
          → flat_map f (cond b (x ∷ filter p xs) (filter p xs)) ≡ filter q (f x) ++ filter q (flat_map f xs)
      go true e own more = ap₂ ◌++◌ (sym (each true (f x) (subst (λ b. AllByRecursion (λ y. q y ≡ b) (f x)) e own))) more
      go false e own more = more ∙ ap (λ l. l ++ filter q (flat_map f xs)) (sym (each false (f x) (subst (λ b. AllByRecursion (λ y. q y ≡ b) (f x)) e own)))

-- If each element that passes one test passes another one, there are no further elements.
pub nothing_else : {X : Type 0} (p : X → Bool) (xs : List X) → filter (λ x. not (p x)) xs ≡ [] → filter p xs ≡ xs
nothing_else p [] none = refl
nothing_else p (x ∷ xs) none = go (p x) refl none (λ h. nothing_else p xs h)
  where
    go : (b : Bool) → p x ≡ b → cond (not (p x)) (x ∷ filter (λ x. not (p x)) xs) (filter (λ x. not (p x)) xs) ≡ [] → (filter (λ x. not (p x)) xs ≡ [] → filter p xs ≡ xs)
        → cond (p x) (x ∷ filter p xs) (filter p xs) ≡ x ∷ xs
    go true e h more = rw e (ap (λ l. x ∷ l) (more (rw e at h)))
    go false e h more = absurd (let bad : x ∷ filter (λ x. not (p x)) xs ≡ [] = rw e at h in cc)

pub all_pass : {X : Type 0} (xs : List X) → filter (λ _. true) xs ≡ xs
all_pass [] = refl
all_pass (x ∷ xs) = ap (λ l. x ∷ l) (all_pass xs)
