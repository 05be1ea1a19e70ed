-- Lemmas: numbers as texts.
use Rattle.std.proofs.Common.{◌≡◌, ℕ, ◌<◌, ◌^◌, List, Bool, true, false, not, cond, ◌&&◌, Some, None, refl, sym, ◌∙◌, ap, subst}
use Rattle.std.proofs.lemmas.Bool.Decides.{Decides-and, Decides-ltb}
use Rattle.std.proofs.lemmas.Slice.Eq.{bytes_eq-Decides}
use Rattle.std.proofs.lemmas.Fmt.{decimal_is_IsNumeral}
use Rattle.std.specs.Bool.{Decides}
use Rattle.std.specs.Fmt.{decimal}
use Rattle.std.specs.Prelude.{nat_lt}
use Rattle.std.specs.Str.{bytes_eq}
use Rattle.std.specs.Str.Parse.{digits_value}
use Rattle.pool_etcd.specs.Number.{number_of}

some_if : {P : Type 0} (b : Bool) (v : ℕ) → Decides b P → P → cond b (Some v) None ≡ Some v
some_if true v d p = refl
some_if false v d p = let e : false ≡ true = d.1 p in let h : ⊥ = cc in absurd h

none_unless : {P : Type 0} (b : Bool) (v : ℕ) → Decides b P → (P → ⊥) → cond b (Some v) None ≡ None
none_unless true v d n = absurd (n (d.0 refl))
none_unless false v d n = refl

-- What the test of `number_of` tells.
is_decimal : (s : List ℕ) → Decides (bytes_eq (decimal (digits_value 10 s)) s && nat_lt (digits_value 10 s) (2 ^ 64)) ((decimal (digits_value 10 s) ≡ s) × (digits_value 10 s < 2 ^ 64))
is_decimal s = Decides-and _ _ (bytes_eq-Decides (decimal (digits_value 10 s)) s) (Decides-ltb (digits_value 10 s) (2 ^ 64))

-- The text of a number is read as that number.
pub number_of-decimal : (s : List ℕ) (n : ℕ) → n < 2 ^ 64 → s ≡ decimal n → number_of s ≡ Some n
unfolding number_of
number_of-decimal s n low e =
    let value : digits_value 10 s ≡ n = ap (digits_value 10) e ∙ (decimal_is_IsNumeral n low).1 in
    let text : decimal (digits_value 10 s) ≡ s = ap decimal value ∙ sym e in
    let small : digits_value 10 s < 2 ^ 64 = subst (λ (m : ℕ). m < 2 ^ 64) (sym value) low in
    some_if _ (digits_value 10 s) (is_decimal s) (text, small) ∙ ap (λ (m : ℕ). Some m) value

-- A text of no number is read as none.
pub number_of-other : (s : List ℕ) → ((n : ℕ) → n < 2 ^ 64 → s ≡ decimal n → ⊥) → number_of s ≡ None
unfolding number_of
number_of-other s other =
    none_unless _ (digits_value 10 s) (is_decimal s) (λ p. other (digits_value 10 s) p.1 (sym p.0))

none_here : {P : Type 0} (b : Bool) (v n : ℕ) → Decides b P → cond b (Some v) None ≡ Some n → P × (v ≡ n)
none_here true v n d e = (d.0 refl, cc)
none_here false v n d e = let h : ⊥ = cc in absurd h

-- A text that is read as a number is the text of that number.
pub decimal-number_of : (s : List ℕ) (n : ℕ) → number_of s ≡ Some n → (n < 2 ^ 64) × (s ≡ decimal n)
unfolding number_of
decimal-number_of s n e =
    let p = none_here _ (digits_value 10 s) n (is_decimal s) e in
    (subst (λ (m : ℕ). m < 2 ^ 64) p.1 p.0.1, sym p.0.0 ∙ ap decimal p.1)

not_true : (b : Bool) → false ≡ not b → b ≡ true
not_true true e = refl
not_true false e = let h : ⊥ = cc in absurd h

-- What a test of two texts tells.
pub alike : (a b : List ℕ) → false ≡ not (bytes_eq a b) → a ≡ b
alike a b e = (bytes_eq-Decides a b).0 (not_true (bytes_eq a b) e)

pub unlike : (a b : List ℕ) → true ≡ not (bytes_eq a b) → a ≡ b → ⊥
unlike a b e same =
    let equal : bytes_eq a b ≡ true = (bytes_eq-Decides a b).1 same in
    let h : true ≡ false = e ∙ ap not equal in
    let g : ⊥ = cc in g
