-- Two filters in sequence.
use Rattle.std.specs.Prelude.{◌≡◌, ◌&&◌, Bool, true, false, List, [], ◌∷◌, map, filter, cond, refl}
use Rattle.std.proofs.Common.{ap}

-- Filtering twice equals filtering once with both tests.
pub both_at_once : {X Y : Type 0} (f : X → Y) (p : Y → Bool) (q : X → Bool) (xs : List X) → filter p (map f (filter q xs)) ≡ map f (filter (λ x. q x && p (f x)) xs)
both_at_once f p q [] = refl
both_at_once {X} {Y} f p q (x ∷ xs) =
    let rest = both_at_once f p q xs in
    let both : List X = filter (λ z. q z && p (f z)) xs in
    elim (q x) as (λ b. filter p (map f (cond b (x ∷ filter q xs) (filter q xs))) ≡ map f (cond (b && p (f x)) (x ∷ both) both)) [
      | true ↦ elim (p (f x)) as (λ b. cond b (f x ∷ filter p (map f (filter q xs))) (filter p (map f (filter q xs))) ≡ map f (cond b (x ∷ both) both)) [
        | true ↦ ap (λ (ys : List Y). f x ∷ ys) rest
        | false ↦ rest
      ]
      | false ↦ rest
    ]
