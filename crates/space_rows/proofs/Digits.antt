-- Proofs that a cell has exactly one shortest token in lower case.
use Rattle.std.specs.Prelude.{◌≡◌, ℕ, ◌+◌, ◌-◌, ◌*◌, ◌^◌, ◌≤◌, ◌<◌, ◌⊎◌, List, [], ◌∷◌, length, refl, IsTrue, true, false, Bool, ◌&&◌}
use Rattle.std.specs.List.{list_all}
use Rattle.std.specs.Char.{digit_value}
use Rattle.std.specs.Str.Parse.{AllDigits, digits_value, digits_value_after}
use Rattle.std.proofs.Common.{arith, sym, ap, ap₂, ◌∙◌, subst, inl, inr}
use Rattle.std.proofs.lemmas.Bool.{cases_lt}
use Rattle.std.proofs.lemmas.Nat.{pow_pos}
use Rattle.std.proofs.Math.Nat.{mul-le-mul_right}
use Rattle.grid_core.specs.Cell.{Cell, IsCell}
use Rattle.grid_core.proofs.CellNumber.{same_cell}
use Rattle.grid_core.specs.Token.{IsShortest, IsTokenOf, is_lower_digit}
use Rattle.grid_core.proofs.Tokens.{sixteen}
use Rattle.space_rows.specs.Cells.{SpellsToken}

pub both : (a b : Bool) → (a && b) ≡ true → (a ≡ true) × (b ≡ true)
both true b e = (refl, e)
both false b e = absurd cc

lower_range : (x : ℕ) → IsTrue (is_lower_digit x) → ((48 ≤ x) × (x ≤ 57)) ⊎ ((97 ≤ x) × (x ≤ 102))
lower_range x p = grind (arith, p)

figure : (x : ℕ) → 48 ≤ x → x ≤ 57 → digit_value x ≡ x - 48
figure x a b = grind arith

letter : (x : ℕ) → 97 ≤ x → x ≤ 102 → digit_value x ≡ x - 87
letter x a b = grind arith

one_digit : (x y : ℕ) → IsTrue (is_lower_digit x) → IsTrue (is_lower_digit y) → digit_value x ≡ digit_value y → x ≡ y
one_digit x y p q e = elim (lower_range x p) [
  | inl a ↦ elim (lower_range y q) [
    | inl b ↦ let u = figure x a.0 a.1 in let v = figure y b.0 b.1 in omega (arith, a.0, b.0, u, v, e)
    | inr b ↦ let u = figure x a.0 a.1 in let v = letter y b.0 b.1 in omega (arith, a.0, a.1, b.0, b.1, u, v, e)
  ]
  | inr a ↦ elim (lower_range y q) [
    | inl b ↦ let u = letter x a.0 a.1 in let v = figure y b.0 b.1 in omega (arith, a.0, a.1, b.0, b.1, u, v, e)
    | inr b ↦ let u = letter x a.0 a.1 in let v = letter y b.0 b.1 in omega (arith, a.0, b.0, u, v, e)
  ]
]

-- Two lower-case digit strings of the same length and value are equal.
one_after : (m n : ℕ) (s t : List ℕ) → length s ≡ length t → AllDigits 16 s → AllDigits 16 t → IsTrue (list_all is_lower_digit s) → IsTrue (list_all is_lower_digit t) → digits_value_after 16 m s ≡ digits_value_after 16 n t → (m ≡ n) × (s ≡ t)
one_after m n [] [] l a b v w e = (e, refl)
one_after m n [] (y ∷ t) l a b v w e = absurd (omega (arith, l))
one_after m n (x ∷ s) [] l a b v w e = absurd (omega (arith, l))
one_after m n (x ∷ s) (y ∷ t) l a b v w e =
    let p = both (is_lower_digit x) (list_all is_lower_digit s) v in
    let q = both (is_lower_digit y) (list_all is_lower_digit t) w in
    let ih = one_after (m * 16 + digit_value x) (n * 16 + digit_value y) s t (omega (arith, l)) a.1 b.1 p.1 q.1 e in
    let low : digit_value x < 16 = a.0 in
    let low' : digit_value y < 16 = b.0 in
    let top : m * 16 + digit_value x ≡ n * 16 + digit_value y = ih.0 in
    let same : m ≡ n = omega (arith, low, low', top) in
    let digit : digit_value x ≡ digit_value y = omega (arith, low, low', top) in
    (same, ap₂ ◌∷◌ (one_digit x y p.0 q.0 digit) ih.1)

-- Two numbers with the same product by a positive factor are equal.
one_factor : (m n k : ℕ) → 0 < k → m * k ≡ n * k → m ≡ n
one_factor m n k h e = elim (cases_lt m n) [
  | inl lt ↦ let more : (m + 1) * k ≤ n * k = mul-le-mul_right k (let s : m + 1 ≤ n = omega (arith, lt) in s) in absurd (omega (arith, more, e, h))
  | inr ge ↦ elim (cases_lt n m) [
    | inl lt ↦ let more : (n + 1) * k ≤ m * k = mul-le-mul_right k (let s : n + 1 ≤ m = omega (arith, lt) in s) in absurd (omega (arith, more, e, h))
    | inr le ↦ omega (arith, ge, le)
  ]
]

pub one_shortest : (c : Cell) (s t : List ℕ) → IsShortest s c → IsShortest t c → s ≡ t
one_shortest c s t p q =
    let size : length s ≡ length t = let a = p.shortest t q.reads in let b = q.shortest s p.reads in omega (arith, a, b) in
    let k = 16 - length t in
    let some : 0 < 16 ^ k = rw (sixteen k) (pow_pos (4 * k)) in
    let whole : digits_value 16 s * 16 ^ k ≡ digits_value 16 t * 16 ^ k = ap (λ (n : ℕ). digits_value 16 s * 16 ^ (16 - n)) (sym size) ∙ (sym p.reads.number ∙ q.reads.number) in
    (one_after 0 0 s t size p.reads.digits q.reads.digits p.lower q.lower (one_factor (digits_value 16 s) (digits_value 16 t) (16 ^ k) some whole)).1

-- A text that reads as a cell, but is not its printed token, is the token of no cell.
pub not_printed : (text printed : List ℕ) (c : Cell) → IsCell c → IsTokenOf text c → IsShortest printed c → ¬ (printed ≡ text) → (x : Cell) → ¬ SpellsToken text x
not_printed text printed c v r s other x h =
    let same : x ≡ c = same_cell x c h.valid v (h.token.reads.number ∙ sym r.number) in
    other (one_shortest c printed text s (subst (IsShortest text) same h.token))

-- A token is that of one cell.
pub one_spelt : (text : List ℕ) (c d : Cell) → SpellsToken text c → SpellsToken text d → c ≡ d
one_spelt text c d p q = same_cell c d p.valid q.valid (p.token.reads.number ∙ sym q.token.reads.number)
