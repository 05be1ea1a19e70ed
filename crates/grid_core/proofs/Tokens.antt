-- Hexadecimal digits and the numbers that they represent.
use Rattle.std.specs.Prelude.{◌≡◌, ℕ, zero, suc, ◌+◌, ◌-◌, ◌*◌, ◌^◌, ◌/◌, ◌%◌, ◌≤◌, ◌<◌, List, [], ◌∷◌, ◌++◌, length, refl, IsTrue, true, false, Bool, ◌&&◌}
use Rattle.std.specs.List.{list_all}
use Rattle.std.specs.Char.{digit_value}
use Rattle.std.specs.Str.Parse.{AllDigits, digits_value}
use Rattle.std.specs.Int.{w64, trailing_zeros}
use Rattle.std.proofs.Common.{arith, sym, ap, ◌∙◌, inl, inr, get_or, length-append}
use Rattle.std.proofs.lemmas.Int.Digits.{digits_value_push, digits_push}
use Rattle.std.proofs.lemmas.List.Folds.{list_all-append}
use Rattle.std.proofs.lemmas.Nat.{shr-shr, pow-add, pow_pos, shr_high}
use Rattle.std.proofs.lemmas.Bool.{cases_lt}
use Rattle.std.proofs.Math.Nat.{pow-le-pow_right, mul-le-mul_right, pow-suc, div-add-mod'}
use Rattle.grid_core.specs.Cell.{Cell, IsCell, number_of}
use Rattle.grid_core.specs.CellNumber.{path}
use Rattle.grid_core.proofs.CellNumber.{number_of_cell}
use Rattle.grid_core.specs.Token.{IsShortest, Written, is_lower_digit}

pub sixteen : (k : ℕ) → 16 ^ k ≡ 2 ^ (4 * k)
sixteen zero = refl
sixteen (suc k) =
    let next : 4 * suc k ≡ 4 * k + 4 = omega arith in
    pow-suc 16 k ∙ (ap (λ (x : ℕ). x * 16) (sixteen k) ∙ (sym (pow-add 2 (4 * k) 4) ∙ ap (λ (x : ℕ). 2 ^ x) (sym next)))

-- Each digit is less than 16.
pub digit_at : (text : List ℕ) (i : ℕ) → AllDigits 16 text → i < length text → digit_value (get_or text i 0) < 16
digit_at [] i all lt = absurd (omega (arith, lt))
digit_at (x ∷ xs) zero all lt = all.0
digit_at (x ∷ xs) (suc i) all lt = digit_at xs i all.1 (omega (arith, lt))

-- A number of fewer than 16 hexadecimal digits leaves room for one more digit.
pub room : (value i : ℕ) → value < 16 ^ i → i < 16 → value < 2 ^ 60
room value i lt few =
    let most : 16 ^ i ≤ 16 ^ 15 = pow-le-pow_right {n = 16} (omega arith) {i = i} {j = 15} (omega arith) in
    omega (arith, lt, most)

-- Padding a number of `count` hexadecimal digits with zeros to 16 digits does not overflow.
pub filled : (value count : ℕ) → count ≤ 16 → value < 16 ^ count → value * 2 ^ (4 * (16 - count)) % 18446744073709551616 ≡ value * 16 ^ (16 - count)
filled value count le lt =
    let rest = 16 - count in
    let pos : 0 < 16 ^ rest = rw (sixteen rest) (pow_pos (4 * rest)) in
    let all : 16 ^ count * 16 ^ rest ≡ 18446744073709551616 = sym (pow-add 16 count rest) ∙ ap (λ (x : ℕ). 16 ^ x) (let e : count + rest ≡ 16 = omega arith in e) in
    let below : (value + 1) * 16 ^ rest ≤ 16 ^ count * 16 ^ rest = mul-le-mul_right (16 ^ rest) (let e : value + 1 ≤ 16 ^ count = omega (arith, lt) in e) in
    let fits : value * 16 ^ rest < 18446744073709551616 = omega (arith, below, all, pos) in
    ap (λ (x : ℕ). value * x % 18446744073709551616) (sym (sixteen rest)) ∙ (omega (arith, fits))

-- The first zero digits of a number are the empty text.
pub written_none : (n : ℕ) → n < 2 ^ 64 → Written n 0 []
written_none n lt = record { size = refl; digits = tt; value = (let e : 0 ≡ n / 2 ^ 64 = omega (arith, lt) in e); lower = refl }

both_true : (a b : Bool) → a ≡ true → b ≡ true → (a && b) ≡ true
both_true true b p q = q
both_true false b p q = p

pub written_more : (n count : ℕ) (text : List ℕ) (glyph : ℕ) → count < 16 → Written n count text → digit_value glyph ≡ n / 2 ^ (60 - 4 * count) - n / 2 ^ (60 - 4 * count) / 16 * 16 → IsTrue (is_lower_digit glyph)
    → Written n (count + 1) (text ++ glyph ∷ [])
written_more n count text glyph few so digit lower =
    let x = n / 2 ^ (60 - 4 * count) in
    let small : digit_value glyph < 16 = let m : x / 16 * 16 + x % 16 ≡ x = div-add-mod' x 16 in omega (arith, digit, m) in
    let up : x / 2 ^ 4 ≡ n / 2 ^ (64 - 4 * count) = shr-shr n (60 - 4 * count) 4 ∙ ap (λ (y : ℕ). n / 2 ^ y) (let e : 60 - 4 * count + 4 ≡ 64 - 4 * count = omega arith in e) in
    let place : 60 - 4 * count ≡ 64 - 4 * (count + 1) = omega arith in
    let split : x / 16 * 16 + x % 16 ≡ x = div-add-mod' x 16 in
    let joined : digits_value 16 text * 16 + digit_value glyph ≡ x = ap (λ (y : ℕ). y * 16 + digit_value glyph) (so.value ∙ sym up) ∙ omega (arith, digit, split) in
    record {
      size = length-append text (glyph ∷ []) ∙ ap (λ (y : ℕ). y + 1) so.size;
      digits = digits_push 16 text glyph so.digits small;
      value = digits_value_push 16 text glyph ∙ (joined ∙ ap (λ (y : ℕ). n / 2 ^ y) place);
      lower = list_all-append is_lower_digit text (glyph ∷ []) ∙ both_true (list_all is_lower_digit text) (list_all is_lower_digit (glyph ∷ [])) so.lower (both_true (is_lower_digit glyph) true lower refl);
    }

-- An odd number times 2 ^ e, divided by 2 ^ e, is that odd number.
odd_half : (p e : ℕ) → (2 * p + 1) * 2 ^ e / 2 ^ e ≡ 2 * p + 1
odd_half p e =
    let pos : 0 < 2 ^ e = pow_pos e in
    ap (λ (x : ℕ). x / 2 ^ e) (let s : (2 * p + 1) * 2 ^ e ≡ (2 * p + 1) * 2 ^ e + 0 = omega arith in s) ∙ shr_high (2 * p + 1) e 0 pos

-- An odd number times 2 ^ e is not a multiple of a larger power of two.
not_multiple : (n p e v f : ℕ) → n ≡ (2 * p + 1) * 2 ^ e → n ≡ v * 2 ^ f → e < f → ⊥
not_multiple n p e v f odd multiple lt =
    let g = f - e - 1 in
    let split : f ≡ g + 1 + e = omega arith in
    let power : 2 ^ f ≡ 2 ^ g * 2 * 2 ^ e = ap (λ (x : ℕ). 2 ^ x) split ∙ (pow-add 2 (g + 1) e ∙ ap (λ (x : ℕ). x * 2 ^ e) (pow-add 2 g 1)) in
    let even : n ≡ v * 2 ^ g * 2 * 2 ^ e + 0 = multiple ∙ (ap (λ (x : ℕ). v * x) power ∙ (let s : v * (2 ^ g * 2 * 2 ^ e) ≡ v * 2 ^ g * 2 * 2 ^ e + 0 = omega arith in s)) in
    let half : n / 2 ^ e ≡ v * 2 ^ g * 2 = ap (λ (x : ℕ). x / 2 ^ e) even ∙ shr_high (v * 2 ^ g * 2) e 0 (pow_pos e) in
    let other : n / 2 ^ e ≡ 2 * p + 1 = ap (λ (x : ℕ). x / 2 ^ e) odd ∙ odd_half p e in
    omega (arith, half, other)

-- It is a multiple of each smaller power of two.
is_multiple : (n p e f : ℕ) → n ≡ (2 * p + 1) * 2 ^ e → f ≤ e → n / 2 ^ f * 2 ^ f ≡ n
is_multiple n p e f odd le =
    let g = e - f in
    let split : e ≡ g + f = omega arith in
    let whole : n ≡ (2 * p + 1) * 2 ^ g * 2 ^ f + 0 = odd ∙ (ap (λ (x : ℕ). (2 * p + 1) * 2 ^ x) split ∙ (ap (λ (x : ℕ). (2 * p + 1) * x) (pow-add 2 g f) ∙ (let s : (2 * p + 1) * (2 ^ g * 2 ^ f) ≡ (2 * p + 1) * 2 ^ g * 2 ^ f + 0 = omega arith in s))) in
    let front : n / 2 ^ f ≡ (2 * p + 1) * 2 ^ g = ap (λ (x : ℕ). x / 2 ^ f) whole ∙ shr_high ((2 * p + 1) * 2 ^ g) f 0 (pow_pos f) in
    ap (λ (x : ℕ). x * 2 ^ f) front ∙ (let s : (2 * p + 1) * 2 ^ g * 2 ^ f ≡ n = omega (arith, whole) in s)

-- The significant digits of a cell's number are its shortest token.
pub shortest_token : (c : Cell) → IsCell c → (n count : ℕ) (text : List ℕ) → n ≡ number_of c → count ≡ 16 - trailing_zeros w64 n / 4 → Written n count text → IsShortest text c
shortest_token c v n count text is so w =
    let a = number_of_cell c v in
    let p = path c.face c.digits in
    let odd : n ≡ (2 * p + 1) * 2 ^ (2 * a.left) = is ∙ a.number in
    let zeros : trailing_zeros w64 n ≡ 2 * a.left = ap (trailing_zeros w64) is ∙ a.place in
    let all : length c.digits + a.left ≡ 30 = a.all in
    let z = trailing_zeros w64 n / 4 in
    let low : 4 * z ≤ 2 * a.left = omega (arith, zeros) in
    let high : 2 * a.left < 4 * (z + 1) = omega (arith, zeros) in
    let few : z ≤ 15 = omega (arith, zeros, all) in
    let size : length text ≡ count = w.size in
    let rest : 64 - 4 * count ≡ 4 * z = omega (arith, so, few) in
    let rest' : 16 - length text ≡ z = omega (arith, so, few, size) in
    record {
      reads = record {
        size = (omega (arith, so, few, size), omega (arith, so, size));
        digits = w.digits;
        number = sym is ∙ (sym (is_multiple n p (2 * a.left) (4 * z) odd low)
            ∙ (ap (λ (x : ℕ). n / 2 ^ x * 2 ^ (4 * z)) (sym rest)
            ∙ (ap (λ (x : ℕ). x * 2 ^ (4 * z)) (sym w.value)
            ∙ (ap (λ (x : ℕ). digits_value 16 text * x) (sym (sixteen z)) ∙ ap (λ (x : ℕ). digits_value 16 text * 16 ^ x) (sym rest')))));
      };
      lower = w.lower;
      shortest = λ other token. elim (cases_lt (length other) (length text)) [
        | inl shorter ↦
            let f = 4 * (16 - length other) in
            let multiple : n ≡ digits_value 16 other * 2 ^ f = is ∙ (token.number ∙ ap (λ (x : ℕ). digits_value 16 other * x) (sixteen (16 - length other))) in
            let more : 2 * a.left < f = omega (arith, shorter, high, rest', size, so, few) in
            absurd (not_multiple n p (2 * a.left) (digits_value 16 other) f odd multiple more)
        | inr ge ↦ ge
      ];
    }

-- Lower-case hexadecimal digits are ASCII.
pub lower_is_ascii : (b : ℕ) → IsTrue (is_lower_digit b) → b < 128
lower_is_ascii b h = elim (cases_lt b 128) [
  | inl lt ↦ lt
  | inr ge ↦ grind (arith, h)
]
