-- The subscriptions of a list are notified one after another.
use Rattle.std.specs.Prelude.{◌≡◌, ℕ, ◌+◌, ◌<◌, List, [], ◌∷◌, ◌++◌, map, length, refl}
use Rattle.std.proofs.lemmas.List.Edits.{map_over_more}
use Rattle.std.proofs.lemmas.List.{length-map, take-append-le, take_all}
use Rattle.std.proofs.Common.{arith, zero, suc, get_or, set, take, drop, sym, ap, ◌∙◌, subst}
use Rattle.std.specs.List.{AllByRecursion}
use Rattle.entity_core.specs.declared.subscription.Sub.{Sub}
use Rattle.entity_core.specs.Serial.{max_serial}

at_place : {X : Type 0} (P : X → Type 0) (xs : List X) (i : ℕ) (d : X) → i < length xs → AllByRecursion P xs → P (get_or xs i d)
at_place P [] i d within all = absurd (omega (arith, within))
at_place P (x ∷ xs) zero d within all = all.0
at_place P (x ∷ xs) (suc i) d within all = at_place P xs i d (omega (arith, within)) all.1

not_yet : {X : Type 0} (f : X → X) (xs : List X) (i : ℕ) (d : X) → i < length xs → get_or (map f (take i xs) ++ drop i xs) i d ≡ get_or xs i d
not_yet f [] i d within = absurd (omega (arith, within))
not_yet f (x ∷ xs) zero d within = refl
not_yet f (x ∷ xs) (suc i) d within = not_yet f xs i d (omega (arith, within))

-- One more subscription is notified.
tell_more : {X : Type 0} (P : X → Type 0) (f : X → X) (xs ys : List X) (i : ℕ) (x y : X) → i < length xs → AllByRecursion P xs → (P x → y ≡ f x) → ys ≡ map f (take i xs) ++ drop i xs → x ≡ get_or ys i x
    → set ys i y ≡ map f (take (i + 1) xs) ++ drop (i + 1) xs
tell_more {X = X} P f xs ys i x y within all told inv is =
    let here : get_or xs i x ≡ x = sym (not_yet f xs i x within) ∙ (ap (λ (zs : List X). get_or zs i x) (sym inv) ∙ sym is) in
    ap (set ys i) (told (subst P here (at_place P xs i x within all))) ∙ map_over_more f xs ys i x within inv is

-- After the loop, every subscription of the vector is notified.
pub told_whole : (f : Sub → Sub) (old seen new : List Sub) (n : ℕ) → seen ≡ old → new ≡ map f seen → length seen ≡ n → take n (new ++ drop (length new) old) ≡ map f old
told_whole f old seen new n same told size =
    let len : length new ≡ n = ap length told ∙ (length-map seen f ∙ size) in
    take-append-le n new (drop (length new) old) (omega (arith, len)) ∙ (take_all n new (omega (arith, len)) ∙ (told ∙ ap (map f) same))

pub told_more : (f : Sub → Sub) (xs ys : List Sub) (i : ℕ) (x y : Sub) → i < length xs → AllByRecursion (λ s. s.index < max_serial) xs → ((get_or ys i x).index < max_serial → y ≡ f (get_or ys i x)) → ys ≡ map f (take i xs) ++ drop i xs
    → x ≡ get_or ys i x → set ys i y ≡ map f (take (i + 1) xs) ++ drop (i + 1) xs
told_more f xs ys i x y within all told inv is =
    tell_more (λ s. s.index < max_serial) f xs ys i x y within all (subst (λ (z : Sub). z.index < max_serial → y ≡ f z) (sym is) told) inv is
