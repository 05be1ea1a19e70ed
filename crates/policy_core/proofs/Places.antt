-- The indexes of the elements that pass a test.
use Rattle.std.specs.Prelude.{◌≡◌, ℕ, ◌+◌, ◌<◌, Bool, true, false, List, [], ◌∷◌, ◌++◌, length, take, filter, cond, if◌then◌else◌, Option, Some, refl}
use Rattle.std.specs.List.{filter_map, slice_get, AllByRecursion, All, cons_option, range_with_len}
use Rattle.std.proofs.Common.{arith, subst, sym, ap, ◌∙◌, get_or, suc, map}
use Rattle.std.proofs.lemmas.List.{take_more, length-take-le, map-append}
use Rattle.std.proofs.lemmas.List.Elements.{All-from_recursion, filter_map-append}
use Rattle.entity_core.specs.declared.entity.Entity.{Entity}
use Rattle.policy_core.specs.Missing.{passes_at, places_where, is_missing_from, missing_from}

-- The same indexes, by a walk that counts.
abbrev places_from : {X : Type 0} → (X → Bool) → ℕ → List X → List ℕ
places_from test k [] = []
places_from test k (x ∷ xs) = if test x then k ∷ places_from test (k + 1) xs else places_from test (k + 1) xs

by_walk : {X : Type 0} (p : X → Bool) (q : ℕ → Bool) (k : ℕ) (xs : List X) → ((i : ℕ) → q (k + i) ≡ passes_at p xs i) → filter q (range_with_len k (length xs)) ≡ places_from p k xs
by_walk p q k [] h = refl
by_walk {X} p q k (x ∷ xs) h =
    let first : q k ≡ p x = ap q (omega arith) ∙ h 0 in
    let rest : filter q (range_with_len (k + 1) (length xs)) ≡ places_from p (k + 1) xs = by_walk p q (k + 1) xs (λ i. ap q (omega arith) ∙ h (suc i)) in
    λ i. cond (first i) (k ∷ rest i) (rest i)

walked : {X : Type 0} (p : X → Bool) (xs : List X) → places_where p xs ≡ places_from p 0 xs
walked p xs = by_walk p (passes_at p xs) 0 xs (λ i. ap (passes_at p xs) (omega arith))

places_push : {X : Type 0} (p : X → Bool) (k : ℕ) (xs : List X) (y : X) → places_from p k (xs ++ y ∷ []) ≡ places_from p k xs ++ cond (p y) ((k + length xs) ∷ []) []
places_push p k [] y = elim (p y) as (λ b. cond b (k ∷ []) [] ≡ cond b ((k + 0) ∷ []) []) [ true ↦ ap (λ (n : ℕ). n ∷ []) (omega arith) | false ↦ refl ]
places_push {X} p k (x ∷ xs) y =
    let e : places_from p (k + 1) (xs ++ y ∷ []) ≡ places_from p (k + 1) xs ++ cond (p y) ((k + length (x ∷ xs)) ∷ []) [] = places_push p (k + 1) xs y ∙ ap (λ (n : ℕ). places_from p (k + 1) xs ++ cond (p y) (n ∷ []) []) (omega arith) in
    elim (p x) as (λ b. cond b (k ∷ places_from p (k + 1) (xs ++ y ∷ [])) (places_from p (k + 1) (xs ++ y ∷ [])) ≡ cond b (k ∷ places_from p (k + 1) xs) (places_from p (k + 1) xs) ++ cond (p y) ((k + length (x ∷ xs)) ∷ []) []) [
      | true ↦ ap (λ (zs : List ℕ). k ∷ zs) e
      | false ↦ e
    ]

more_from : {X : Type 0} (p : X → Bool) (xs : List X) (i : ℕ) (d : X) → i < length xs → places_from p 0 (take (i + 1) xs) ≡ places_from p 0 (take i xs) ++ cond (p (get_or xs i d)) (i ∷ []) []
more_from p xs i d h =
    let l : length (take i xs) ≡ i = length-take-le i xs (omega (arith, h)) in
    ap (places_from p 0) (take_more xs i d h) ∙ (places_push p 0 (take i xs) (get_or xs i d) ∙ ap (λ (n : ℕ). places_from p 0 (take i xs) ++ cond (p (get_or xs i d)) (n ∷ []) []) (omega (arith, l)))

pub places_more : {X : Type 0} (p : X → Bool) (xs : List X) (i : ℕ) (d : X) → i < length xs → places_where p (take (i + 1) xs) ≡ places_where p (take i xs) ++ cond (p (get_or xs i d)) (i ∷ []) []
places_more p xs i d h =
    walked p (take (i + 1) xs) ∙ (more_from p xs i d h ∙ ap (λ (ps : List ℕ). ps ++ cond (p (get_or xs i d)) (i ∷ []) []) (sym (walked p (take i xs))))

picked_by : {X : Type 0} (p : X → Bool) (f : ℕ → Option X) (k : ℕ) (xs : List X) → ((i : ℕ) → f (k + i) ≡ slice_get xs i) → filter_map f (places_from p k xs) ≡ filter p xs
picked_by p f k [] h = refl
picked_by {X} p f k (x ∷ xs) h =
    let first : f k ≡ Some x = ap f (omega arith) ∙ h 0 in
    let e : filter_map f (places_from p (k + 1) xs) ≡ filter p xs = picked_by p f (k + 1) xs (λ i. ap f (omega arith) ∙ h (suc i)) in
    elim (p x) as (λ b. filter_map f (cond b (k ∷ places_from p (k + 1) xs) (places_from p (k + 1) xs)) ≡ cond b (x ∷ filter p xs) (filter p xs)) [
      | true ↦ rw first (ap (λ (zs : List X). x ∷ zs) e)
      | false ↦ e
    ]

-- The elements at these indexes are those that pass the test.
pub picked : {X : Type 0} (p : X → Bool) (xs : List X) → filter_map (slice_get xs) (places_where p xs) ≡ filter p xs
picked p xs = ap (filter_map (slice_get xs)) (walked p xs) ∙ picked_by p (slice_get xs) 0 xs (λ i. ap (slice_get xs) (omega arith))

places_within : {X : Type 0} (p : X → Bool) (k : ℕ) (xs : List X) → AllByRecursion (λ i. i < k + length xs) (places_from p k xs)
places_within p k [] = tt
places_within {X} p k (x ∷ xs) =
    let e : AllByRecursion (λ i. i < k + length (x ∷ xs)) (places_from p (k + 1) xs) = subst (λ (n : ℕ). AllByRecursion (λ i. i < n) (places_from p (k + 1) xs)) (omega arith) (places_within p (k + 1) xs) in
    elim (p x) as (λ b. AllByRecursion (λ i. i < k + length (x ∷ xs)) (cond b (k ∷ places_from p (k + 1) xs) (places_from p (k + 1) xs))) [
      | true ↦ (omega arith, e)
      | false ↦ e
    ]

pub places_inside : {X : Type 0} (p : X → Bool) (xs : List X) → All (λ i. i < length xs) (places_where p xs)
places_inside p xs =
    subst (All (λ i. i < length xs)) (sym (walked p xs)) (All-from_recursion (λ i. i < length xs) (places_from p 0 xs) (subst (λ (n : ℕ). AllByRecursion (λ i. i < n) (places_from p 0 xs)) (omega arith) (places_within p 0 xs)))

-- One more index gives one more element.
pub pick_more : {E R : Type 0} (f : E → R) (es : List E) (places : List ℕ) (i d : ℕ) (x : E) → i < length places → slice_get es (get_or places i d) ≡ Some x
    → map f (filter_map (slice_get es) (take (i + 1) places)) ≡ map f (filter_map (slice_get es) (take i places)) ++ f x ∷ []
pick_more {E} f es places i d x h is =
    ap (λ (ps : List ℕ). map f (filter_map (slice_get es) ps)) (take_more places i d h)
    ∙ (ap (map f) (filter_map-append (slice_get es) (take i places) (get_or places i d ∷ []))
    ∙ (map-append f (filter_map (slice_get es) (take i places)) (cons_option (slice_get es (get_or places i d)) [])
    ∙ ap (λ (o : Option E). map f (filter_map (slice_get es) (take i places)) ++ map f (cons_option o [])) is))

pub missing_is : {R : Type 0} (f : Entity → R) (key : List (List ℕ)) (es es1 es2 met : List Entity) (ps ps2 : List ℕ) → es1 ≡ es → es2 ≡ es → ps2 ≡ ps → ps ≡ places_where (is_missing_from key) es1 → es ≡ met
    → map f (filter_map (slice_get es2) ps2) ≡ map f (missing_from key met)
unfolding missing_from
missing_is f key es es1 es2 met ps ps2 one two three places is =
    ap (λ (e : List Entity). map f (filter_map (slice_get e) ps2)) two
    ∙ (ap (λ (p : List ℕ). map f (filter_map (slice_get es) p)) (three ∙ (places ∙ ap (places_where (is_missing_from key)) one))
    ∙ (ap (map f) (picked (is_missing_from key) es) ∙ ap (λ (e : List Entity). map f (filter (is_missing_from key) e)) is))

pub inside_is : (key : List (List ℕ)) (es es1 es2 : List Entity) (ps ps2 : List ℕ) → es1 ≡ es → es2 ≡ es → ps2 ≡ ps → ps ≡ places_where (is_missing_from key) es1 → All (λ i. i < length es2) ps2
inside_is key es es1 es2 ps ps2 one two three places =
    subst (λ (e : List Entity). All (λ i. i < length e) ps2) (sym two)
    (subst (λ (p : List ℕ). All (λ i. i < length es) p) (sym (three ∙ (places ∙ ap (places_where (is_missing_from key)) one))) (places_inside (is_missing_from key) es))
