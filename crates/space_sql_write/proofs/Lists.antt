-- Lemmas about elements of lists and tests of them.
use Rattle.std.proofs.Common.{◌≡◌, inl, inr, ◌≤◌, List, [], ◌∷◌, ◌++◌, map, filter, length, not, ◌&&◌, Bool, true, false, cond, refl, sym, ap, subst, subst₂, ◌∙◌, arith, is_eq, Ordering, Less, Equal, Greater}
use Rattle.std.specs.Prelude.{IsPermutation}
use Rattle.std.proofs.lemmas.List.Sorted.{All-permutation, IsPermutation-append_comm, IsPermutation-cons}
use Rattle.std.proofs.lemmas.List.Elements.{All-from_recursion, recursion_from_All}
use Rattle.std.specs.List.{AllByRecursion}
use Rattle.sqlite_rules.specs.Lists.{Has}

pub equal_of : (o : Ordering) → is_eq o ≡ true → o ≡ Equal
equal_of Less e = cc
equal_of Equal e = refl
equal_of Greater e = cc

pub first_of_two : (a b : Bool) → (a && b) ≡ true → a ≡ true
first_of_two true b e = refl
first_of_two false b e = cc

pub last_of_two : (a b : Bool) → (a && b) ≡ true → b ≡ true
last_of_two true b e = e
last_of_two false b e = cc

module _ {X : Type 0} where
  pub all_there : (P : X → Type 0) (xs : List X) → AllByRecursion P xs → (x : X) → Has xs x → P x
  all_there P [] all x h = absurd h
  all_there P (y ∷ xs) all x (inl e) = subst P (sym e) all.0
  all_there P (y ∷ xs) all x (inr h) = all_there P xs all.1 x h

  pub all_from : (P : X → Type 0) (xs : List X) → ((x : X) → Has xs x → P x) → AllByRecursion P xs
  all_from P [] each = tt
  all_from P (x ∷ xs) each = (each x (inl refl), all_from P xs (λ y h. each y (inr h)))

  pub has_filtered : (p : X → Bool) (xs : List X) (x : X) → Has xs x → p x ≡ true → Has (filter p xs) x
  has_filtered p [] x h e = h
  has_filtered p (y ∷ xs) x (inl same) e = subst (λ b. Has (cond b (y ∷ filter p xs) (filter p xs)) x) (sym (ap p (sym same) ∙ e)) (inl same)
  has_filtered p (y ∷ xs) x (inr h) e = go (p y) (has_filtered p xs x h e)
    where
      go : (b : Bool) → Has (filter p xs) x → Has (cond b (y ∷ filter p xs) (filter p xs)) x
      go true more = inr more
      go false more = more

  pub filtered_from : (p : X → Bool) (xs : List X) (x : X) → Has (filter p xs) x → Has xs x × (p x ≡ true)
  filtered_from p [] x h = absurd h
  filtered_from p (y ∷ xs) x h = go (p y) refl h (filtered_from p xs x)
    where
      go : (b : Bool) → p y ≡ b → Has (cond b (y ∷ filter p xs) (filter p xs)) x → (Has (filter p xs) x → Has xs x × (p x ≡ true)) → Has (y ∷ xs) x × (p x ≡ true)
      go true e (inl same) more = (inl same, ap p same ∙ e)
      go true e (inr k) more = let it = more k in (inr it.0, it.1)
      go false e k more = let it = more k in (inr it.0, it.1)

  -- Tests that agree on the elements filter a list equally.
  pub filter_on : (p q : X → Bool) (xs : List X) → ((x : X) → Has xs x → p x ≡ q x) → filter p xs ≡ filter q xs
  filter_on p q [] h = refl
  filter_on p q (x ∷ xs) h = ap (λ b. cond b (x ∷ filter p xs) (filter p xs)) (h x (inl refl)) ∙ ap (λ l. cond (q x) (x ∷ l) l) (filter_on p q xs (λ y k. h y (inr k)))

  pub filter_joined : (p : X → Bool) (xs ys : List X) → filter p (xs ++ ys) ≡ filter p xs ++ filter p ys
  filter_joined p [] ys = refl
  filter_joined p (x ∷ xs) ys = elim (p x) as (λ b. cond b (x ∷ filter p (xs ++ ys)) (filter p (xs ++ ys)) ≡ cond b (x ∷ filter p xs) (filter p xs) ++ filter p ys) [ true ↦ ap (λ l. x ∷ l) (filter_joined p xs ys) | false ↦ filter_joined p xs ys ]

  -- Two elements of a list with at most one element are equal.
  pub alone : (xs : List X) (a b : X) → length xs ≤ 1 → Has xs a → Has xs b → a ≡ b
  alone [] a b few h k = absurd h
  alone (x ∷ []) a b few (inl p) (inl q) = p ∙ sym q
  alone (x ∷ []) a b few (inl p) (inr k) = absurd k
  alone (x ∷ []) a b few (inr h) k = absurd h
  alone (x ∷ y ∷ xs) a b few h k = absurd (omega (arith, few))

  pub passing : (p : X → Bool) (xs : List X) → AllByRecursion (λ x. p x ≡ true) (filter p xs)
  passing p [] = tt
  passing p (x ∷ xs) = go (p x) refl (passing p xs)
    where
      go : (b : Bool) → p x ≡ b → AllByRecursion (λ y. p y ≡ true) (filter p xs) → AllByRecursion (λ y. p y ≡ true) (cond b (x ∷ filter p xs) (filter p xs))
      go true e more = (e, more)
      go false e more = more

  -- The only element that is filtered passes the test.
  pub one_passes : (p : X → Bool) (xs : List X) (x : X) → filter p xs ≡ x ∷ [] → p x ≡ true
  one_passes p xs x e = let all = subst (AllByRecursion (λ y. p y ≡ true)) e (passing p xs) in all.0

  -- Lemmas about a list in which the elements that pass a test are mapped.
  module _ (hit : X → Bool) (f : X → X) where
    abbrev pub turned : X → X
    turned y = cond (hit y) (f y) y

    abbrev rest : List X → List X
    rest ys = filter (λ y. not (hit y)) ys

    none_turned : (xs : List X) → filter hit xs ≡ [] → (rest xs ≡ xs) × (map turned xs ≡ xs)
    none_turned [] e = (refl, refl)
    none_turned (x ∷ xs) e = go (hit x) refl e (none_turned xs)
      where
        go : (b : Bool) → hit x ≡ b → cond b (x ∷ filter hit xs) (filter hit xs) ≡ [] → (filter hit xs ≡ [] → (rest xs ≡ xs) × (map turned xs ≡ xs))
            → (cond (not b) (x ∷ rest xs) (rest xs) ≡ x ∷ xs) × (cond b (f x) x ∷ map turned xs ≡ x ∷ xs)
        go true h e more = absurd (let none = e in cc)
        go false h e more = let it = more e in (ap (λ l. x ∷ l) it.0, ap (λ l. x ∷ l) it.1)

    -- If exactly one element passes, only that one is mapped.
    pub one_turned : (xs : List X) (x : X) → filter hit xs ≡ x ∷ [] → IsPermutation (rest xs ++ f x ∷ []) (map turned xs)
    one_turned [] x e = absurd (let none = e in cc)
    one_turned (y ∷ ys) x e = go (hit y) refl e (one_turned ys x)
      where
        go : (b : Bool) → hit y ≡ b → cond b (y ∷ filter hit ys) (filter hit ys) ≡ x ∷ [] → (filter hit ys ≡ x ∷ [] → IsPermutation (rest ys ++ f x ∷ []) (map turned ys))
            → IsPermutation (cond (not b) (y ∷ rest ys) (rest ys) ++ f x ∷ []) (cond b (f y) y ∷ map turned ys)
        go true h e more =
            let head : y ≡ x = cc in
            let none : filter hit ys ≡ [] = cc in
            let it = none_turned ys none in
            subst₂ (λ l m. IsPermutation (l ++ f x ∷ []) (f y ∷ m)) (sym it.0) (sym it.1) (subst (λ z. IsPermutation (ys ++ f x ∷ []) (f z ∷ ys)) (sym head) (IsPermutation-append_comm ys (f x ∷ [])))
        go false h e more = IsPermutation-cons y _ _ (more e)

-- If the image of a list has one element, the list has one.
pub one_row : {X Y : Type 0} (f : X → Y) (xs : List X) (y : Y) → map f xs ≡ y ∷ [] → (x : X) × (xs ≡ x ∷ []) × (f x ≡ y)
one_row f [] y e = absurd cc
one_row f (x ∷ []) y e = (x, refl, cc)
one_row f (x ∷ z ∷ xs) y e = absurd cc

-- An element of the image is the image of an element.
pub mapped_from : {X Y : Type 0} (f : X → Y) (xs : List X) (y : Y) → Has (map f xs) y → (x : X) × Has xs x × (y ≡ f x)
mapped_from f [] y h = absurd h
mapped_from f (x ∷ xs) y (inl e) = (x, inl refl, e)
mapped_from f (x ∷ xs) y (inr h) = let it = mapped_from f xs y h in (it.0, inr it.1, it.2)

pub mapped_there : {X Y : Type 0} (f : X → Y) (xs : List X) (x : X) → Has xs x → Has (map f xs) (f x)
mapped_there f [] x h = absurd h
mapped_there f (y ∷ xs) x (inl e) = inl (ap f e)
mapped_there f (y ∷ xs) x (inr h) = inr (mapped_there f xs x h)

-- Permutations have the same elements.
pub moved : {X : Type 0} (xs ys : List X) (x : X) → IsPermutation xs ys → Has ys x → Has xs x
moved xs ys x same there = all_there (λ y. Has xs y) ys (recursion_from_All (λ y. Has xs y) ys (All-permutation (λ y. Has xs y) xs ys same (All-from_recursion (λ y. Has xs y) xs (all_from (λ y. Has xs y) xs (λ y h. h))))) x there

pub map_on : {X Y : Type 0} (f g : X → Y) (xs : List X) → ((x : X) → Has xs x → f x ≡ g x) → map f xs ≡ map g xs
map_on f g [] same = refl
map_on f g (x ∷ xs) same = λ i. same x (inl refl) i ∷ map_on f g xs (λ y h. same y (inr h)) i

pub alone_is : {X : Type 0} (xs : List X) (x : X) → length xs ≤ 1 → Has xs x → xs ≡ x ∷ []
alone_is [] x few h = absurd h
alone_is (y ∷ []) x few (inl e) = ap (λ z. z ∷ []) (sym e)
alone_is (y ∷ []) x few (inr h) = absurd h
alone_is (y ∷ z ∷ xs) x few h = absurd (omega (arith, few))
