-- Lemmas: words and lines, and numbers in them.
use Rattle.std.proofs.Common.{◌≡◌, ◌≢◌, ℕ, zero, suc, ◌<◌, ◌^◌, List, [], ◌∷◌, ◌++◌, refl, sym, ◌∙◌, subst, arith}
use Rattle.std.specs.Fmt.{decimal}
use Rattle.std.specs.Char.{digit_value}
use Rattle.std.specs.Str.Parse.{AllDigits}
use Rattle.std.proofs.lemmas.Fmt.{decimal_is_IsNumeral}
use Rattle.pool_etcd.specs.Lines.{IsOneLine, Lacks}
use Rattle.pool_etcd.specs.Number.{number_of}
use Rattle.pool_etcd.proofs.Numbers.{number_of-decimal}

-- A byte that is not the last of what lacks another byte.
one_less : (byte x : ℕ) (xs : List ℕ) → Lacks byte (x ∷ xs) → Lacks byte xs
one_less byte x xs h = λ k low. h (suc k) (omega arith)

not_first : (byte x : ℕ) (xs : List ℕ) → Lacks byte (x ∷ xs) → x ≢ byte
not_first byte x xs h = h 0 (omega arith)

-- A byte has one first place at most.
pub first_unique : (byte : ℕ) (a b c d : List ℕ) → Lacks byte a → Lacks byte c → a ++ byte ∷ b ≡ c ++ byte ∷ d → (a ≡ c) × (b ≡ d)
first_unique byte [] b [] d p q e = (refl, cc)
first_unique byte [] b (y ∷ c) d p q e = let h : y ≡ byte = cc in absurd (not_first byte y c q h)
first_unique byte (x ∷ a) b [] d p q e = let h : x ≡ byte = cc in absurd (not_first byte x a p h)
first_unique byte (x ∷ a) b (y ∷ c) d p q e =
    let head : x ≡ y = cc in
    let tail : a ++ byte ∷ b ≡ c ++ byte ∷ d = cc in
    let rest = first_unique byte a b c d (one_less byte x a p) (one_less byte y c q) tail in
    let front : x ∷ a ≡ y ∷ c = let same : a ≡ c = rest.0 in cc in
    (front, rest.1)

-- Digits lack a byte that is no digit.
digits_lack : (byte : ℕ) (ds : List ℕ) → (digit_value byte < 10 → ⊥) → AllDigits 10 ds → Lacks byte ds
digits_lack byte [] other h k low = absurd (omega arith)
digits_lack byte (d ∷ ds) other h zero low = λ e. other (subst (λ (x : ℕ). digit_value x < 10) e h.0)
digits_lack byte (d ∷ ds) other h (suc k) low = digits_lack byte ds other h.1 k (omega arith)

pub no_digit_10 : digit_value 10 < 10 → ⊥
no_digit_10 small = absurd (omega arith)

pub no_digit_32 : digit_value 32 < 10 → ⊥
no_digit_32 small = absurd (omega arith)

pub decimal_lacks : (byte n : ℕ) → (digit_value byte < 10 → ⊥) → n < 2 ^ 64 → Lacks byte (decimal n)
decimal_lacks byte n other low = digits_lack byte (decimal n) other (decimal_is_IsNumeral n low).0.1

pub decimal_one_line : (n : ℕ) → n < 2 ^ 64 → IsOneLine (decimal n)
decimal_one_line n low = digits_lack 10 (decimal n) no_digit_10 (decimal_is_IsNumeral n low).0.1

pub decimal_one_word : (n : ℕ) → n < 2 ^ 64 → Lacks 32 (decimal n)
decimal_one_word n low = digits_lack 32 (decimal n) no_digit_32 (decimal_is_IsNumeral n low).0.1

pub inside : (byte : ℕ) (a b : List ℕ) → Lacks byte (a ++ byte ∷ b) → ⊥
inside byte [] b h = not_first byte byte b h refl
inside byte (x ∷ a) b h = inside byte a b (one_less byte x (a ++ byte ∷ b) h)

pub lacks_both : (byte other : ℕ) (a b : List ℕ) → other ≢ byte → Lacks byte a → Lacks byte b → Lacks byte (a ++ other ∷ b)
lacks_both byte other [] b apart p q zero low = apart
lacks_both byte other [] b apart p q (suc k) low = q k (omega arith)
lacks_both byte other (x ∷ a) b apart p q zero low = p 0 (omega arith)
lacks_both byte other (x ∷ a) b apart p q (suc k) low = lacks_both byte other a b apart (one_less byte x a p) q k (omega arith)

pub one_number : (s : List ℕ) (m n : ℕ) → m < 2 ^ 64 → n < 2 ^ 64 → s ≡ decimal m → s ≡ decimal n → m ≡ n
one_number s m n low less e f =
    let left = number_of-decimal s m low e in
    let right = number_of-decimal s n less f in
    cc
