-- Lemmas about lists that are cut into parts.
use Rattle.std.specs.Prelude.{◌≡◌, ◌≢◌, List, [], ◌∷◌, ◌++◌, refl}
use Rattle.std.specs.List.{AllByRecursion, AllZip, flat_map}
use Rattle.std.proofs.Common.{sym, ap₂, subst, ◌∙◌}

-- Two equal lists have the same prefix of elements with P.
pub one_front : {B : Type 0} (P : B → Type 0) (xs ys rs ss : List B) → AllByRecursion P xs → AllByRecursion P ys → AllByRecursion (λ b. ¬ P b) rs → AllByRecursion (λ b. ¬ P b) ss
    → xs ++ rs ≡ ys ++ ss → (xs ≡ ys) × (rs ≡ ss)
one_front P [] [] rs ss p q r s e = (refl, e)
one_front P [] (y ∷ ys) [] ss p q r s e = absurd cc
one_front P [] (y ∷ ys) (z ∷ rs) ss p q r s e = let same : z ≡ y = cc in absurd (r.0 (subst P (sym same) q.0))
one_front P (x ∷ xs) [] rs [] p q r s e = absurd cc
one_front P (x ∷ xs) [] rs (z ∷ ss) p q r s e = let same : x ≡ z = cc in absurd (s.0 (subst P same p.0))
one_front P (x ∷ xs) (y ∷ ys) rs ss p q r s e =
    let head : x ≡ y = cc in
    let rest : xs ++ rs ≡ ys ++ ss = cc in
    let more = one_front P xs ys rs ss p.1 q.1 r s rest in
    (ap₂ ◌∷◌ head more.0, more.1)

-- Holds if every element of each part has the key of that part.
abbrev pub Borne : {A B K : Type 0} → (B → K) → (A → K) → (A → List B) → List A → Type 0
Borne key of f xs = AllByRecursion (λ a. AllByRecursion (λ b. key b ≡ of a) (f a)) xs

-- Holds if no two elements have the same key.
abbrev pub Differ : {A K : Type 0} → (A → K) → List A → Type 0
Differ of [] = Unit {0}
Differ of (x ∷ xs) = AllByRecursion (λ y. of x ≢ of y) xs × Differ of xs

pub all_joined : {B : Type 0} (P : B → Type 0) (xs ys : List B) → AllByRecursion P xs → AllByRecursion P ys → AllByRecursion P (xs ++ ys)
all_joined P [] ys p q = q
all_joined P (x ∷ xs) ys p q = (p.0, all_joined P xs ys p.1 q)

pub all_turned : {B : Type 0} (P Q : B → Type 0) → ((b : B) → P b → Q b) → (xs : List B) → AllByRecursion P xs → AllByRecursion Q xs
all_turned P Q f [] p = tt
all_turned P Q f (x ∷ xs) p = (f x p.0, all_turned P Q f xs p.1)

module _ {A B K : Type 0} (key : B → K) (of : A → K) (f : A → List B) where
  none_of : (k : K) (xs : List A) → Borne key of f xs → AllByRecursion (λ y. k ≢ of y) xs → AllByRecursion (λ b. ¬ (key b ≡ k)) (flat_map f xs)
  none_of k [] borne other = tt
  none_of k (x ∷ xs) borne other =
      all_joined _ (f x) (flat_map f xs) (all_turned (λ b. key b ≡ of x) (λ b. ¬ (key b ≡ k)) (λ b e g. other.0 (sym g ∙ e)) (f x) borne.0) (none_of k xs borne.1 other.1)

  -- If two flattened lists are equal and the keys differ, the parts are equal.
  pub one_flat : (xs ys : List A) → AllZip (λ a b. of a ≡ of b) xs ys → Borne key of f xs → Borne key of f ys → Differ of xs → flat_map f xs ≡ flat_map f ys → AllZip (λ a b. f a ≡ f b) xs ys
  one_flat [] [] same p q apart e = tt
  one_flat [] (y ∷ ys) same p q apart e = same
  one_flat (x ∷ xs) [] same p q apart e = same
  one_flat (x ∷ xs) (y ∷ ys) same p q apart e =
      let theirs = all_turned (λ b. key b ≡ of y) (λ b. key b ≡ of x) (λ b g. g ∙ sym same.0) (f y) q.0 in
      let others = others_of (of x) xs ys same.1 apart.0 in
      let it = one_front (λ b. key b ≡ of x) (f x) (f y) (flat_map f xs) (flat_map f ys) p.0 theirs (none_of (of x) xs p.1 apart.0) (none_of (of x) ys q.1 others) e in
      (it.0, one_flat xs ys same.1 p.1 q.1 apart.1 it.1)
    where
      others_of : (k : K) (xs ys : List A) → AllZip (λ a b. of a ≡ of b) xs ys → AllByRecursion (λ y. k ≢ of y) xs → AllByRecursion (λ y. k ≢ of y) ys
      others_of k [] [] same p = tt
      others_of k [] (y ∷ ys) same p = absurd same
      others_of k (x ∷ xs) [] same p = tt
      others_of k (x ∷ xs) (y ∷ ys) same p = ((λ e. p.0 (e ∙ sym same.0)), others_of k xs ys same.1 p.1)
