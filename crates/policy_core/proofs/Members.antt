-- Membership in lists.
use Rattle.std.specs.Prelude.{◌≡◌, zero, suc, Bool, true, false, List, [], ◌∷◌, map, filter, cond, Contains, ◌⊎◌}
use Rattle.std.proofs.Common.{arith, sym, ap, ◌∙◌, subst, inl, inr}

pub contained : {X : Type 0} (x : X) (xs : List X) (y : X) → Contains (x ∷ xs) y → (x ≡ y) ⊎ Contains xs y
contained x xs y (zero, lt, is) = inl is
contained x xs y (suc k, lt, is) = inr (k, omega (arith, lt), is)

pub no_member : {X : Type 0} (y : X) → Contains [] y → ⊥
no_member y (k, lt, is) = absurd (omega (arith, lt))

pub later : {X : Type 0} (x : X) (xs : List X) (y : X) → Contains xs y → Contains (x ∷ xs) y
later x xs y (k, lt, is) = (suc k, omega (arith, lt), is)

pub passing : {X : Type 0} (p : X → Bool) (xs : List X) (y : X) → Contains xs y → p y ≡ true → Contains (filter p xs) y
passing p [] y h t = absurd (no_member y h)
passing {X} p (x ∷ xs) y h t =
    elim (contained x xs y h) [
      | inl is ↦ subst (λ (b : Bool). Contains (cond b (x ∷ filter p xs) (filter p xs)) y) (sym (ap p is ∙ t)) (0, omega arith, is)
      | inr rest ↦ elim (p x) as (λ b. Contains (cond b (x ∷ filter p xs) (filter p xs)) y) [
        | true ↦ later x (filter p xs) y (passing p xs y rest t)
        | false ↦ passing p xs y rest t
      ]
    ]

pub mapped : {X Y : Type 0} (f : X → Y) (xs : List X) (y : X) → Contains xs y → Contains (map f xs) (f y)
mapped f [] y h = absurd (no_member y h)
mapped f (x ∷ xs) y h =
    elim (contained x xs y h) [
      | inl is ↦ (0, omega arith, ap f is)
      | inr rest ↦ later (f x) (map f xs) (f y) (mapped f xs y rest)
    ]
