-- The first element of a list that passes a test.
use Rattle.std.specs.Prelude.{◌≡◌, Bool, true, false, List, [], ◌∷◌, ◌++◌, Option, Some, None, cond, find, refl}
use Rattle.std.proofs.Common.{sym, ap, ◌∙◌, subst}
use Rattle.std.proofs.lemmas.Option.{same_Some}
use Rattle.std.specs.List.{AllByRecursion}

abbrev pub or_else : {X : Type 0} → Option X → Option X → Option X
or_else (Some x) o = Some x
or_else None o = o

pub find-append : {X : Type 0} (p : X → Bool) (xs ys : List X) → find p (xs ++ ys) ≡ or_else (find p xs) (find p ys)
find-append p [] ys = refl
find-append p (x ∷ xs) ys =
    elim (p x) as (λ b. cond b (Some x) (find p (xs ++ ys)) ≡ or_else (cond b (Some x) (find p xs)) (find p ys)) [
      | true ↦ refl
      | false ↦ find-append p xs ys
    ]

-- What holds for all elements of a list holds for the one found.
pub find_has : {X : Type 0} (Q : X → Type 0) (p : X → Bool) (xs : List X) (x : X) → AllByRecursion Q xs → find p xs ≡ Some x → Q x
find_has Q p [] x all h = cc
find_has {X} Q p (y ∷ xs) x all h =
    elim (p y) as (λ b. cond b (Some y) (find p xs) ≡ Some x → Q x) [
      | true ↦ λ e. subst Q (same_Some y x e) all.0
      | false ↦ λ e. find_has Q p xs x all.1 e
    ] h

pub find_rest : {X : Type 0} (p : X → Bool) (xs ys : List X) → find p (xs ++ ys) ≡ None → find p ys ≡ None
find_rest p [] ys h = h
find_rest p (y ∷ xs) ys h =
    elim (p y) as (λ b. cond b (Some y) (find p (xs ++ ys)) ≡ None → find p ys ≡ None) [
      | true ↦ λ e. cc
      | false ↦ λ e. find_rest p xs ys e
    ] h

-- The element found passes the test.
pub find_true : {X : Type 0} (p : X → Bool) (xs : List X) (x : X) → find p xs ≡ Some x → p x ≡ true
find_true p [] x h = cc
find_true p (y ∷ xs) x h =
    elim (p y) as (λ b. p y ≡ b → cond b (Some y) (find p xs) ≡ Some x → p x ≡ true) [
      | true ↦ λ t e. ap p (sym (same_Some y x e)) ∙ t
      | false ↦ λ t e. find_true p xs x e
    ] refl h

head_fails : {X : Type 0} (p : X → Bool) (x : X) (ys : List X) → find p (x ∷ ys) ≡ None → p x ≡ false
head_fails p x ys h =
    elim (p x) as (λ b. cond b (Some x) (find p ys) ≡ None → b ≡ false) [
      | true ↦ λ e. cc
      | false ↦ λ e. refl
    ] h

-- If the search finds nothing, each element fails the test.
pub none_passes : {X : Type 0} (p : X → Bool) (xs ys : List X) (x : X) → find p (xs ++ x ∷ ys) ≡ None → p x ≡ false
none_passes p xs ys x h = head_fails p x ys (find_rest p xs (x ∷ ys) h)
