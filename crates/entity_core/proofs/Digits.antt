-- Hexadecimal digits are visible characters.
use Rattle.std.proofs.Common.{◌≡◌, ℕ, zero, suc, ◌/◌, ◌%◌, ◌<◌, Bool, true, List, [], ◌∷◌, slice_index, length, None, refl, arith, inl, inr, ◌&&◌}
use Rattle.std.proofs.lemmas.Bool.{and_parts, cases_lt}
use Rattle.std.specs.List.{list_all}
use Rattle.hex.specs.Hex.{IsBytes, encode_lower, encode_with, lower_digits}
use Rattle.hex.proofs.HexLemmas.{length-encode_with}
use Rattle.entity_core.specs.IdTexts.{is_visible_byte, ovn_fault}

-- True if the first n numbers pass.
abbrev first_pass : (ℕ → Bool) → ℕ → Bool
first_pass p zero = true
first_pass p (suc n) = p n && first_pass p n

first_pass-at : (p : ℕ → Bool) (n k : ℕ) → first_pass p n ≡ true → k < n → p k ≡ true
first_pass-at p zero k h lt = absurd (omega arith)
first_pass-at p (suc n) k h lt =
    let parts = and_parts (p n) (first_pass p n) h in
    elim (cases_lt k n) [
      | inl below ↦ first_pass-at p n k parts.1 below
      | inr top ↦ let e : k ≡ n = omega arith in rw e parts.0
    ]

digit_visible : (d : ℕ) → d < 16 → is_visible_byte (slice_index lower_digits d) ≡ true
digit_visible d lt = first_pass-at (λ n. is_visible_byte (slice_index lower_digits n)) 16 d refl lt

pub visible_hex : (xs : List ℕ) → IsBytes xs → list_all is_visible_byte (encode_lower xs) ≡ true
unfolding encode_with
visible_hex [] h = refl
visible_hex (b ∷ rest) h =
    let fits : b < 256 = h 0 in
    let high : b / 16 < 16 = omega arith in
    let low : b % 16 < 16 = omega arith in
    let ih = visible_hex rest (λ k. h (suc k)) in
    rw (digit_visible (b / 16) high, digit_visible (b % 16) low) ih

-- The hexadecimal digits of 32 bytes are an OVN.
pub hex_is_ovn : (xs : List ℕ) → IsBytes xs → length xs ≡ 32 → ovn_fault (encode_lower xs) ≡ None
hex_is_ovn xs bytes long =
    let digits : length (encode_lower xs) ≡ 64 = omega (arith, length-encode_with lower_digits xs) in
    rw (digits, visible_hex xs bytes) refl
