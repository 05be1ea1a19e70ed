-- Lemmas: lengths given by digits.
use Rattle.std.proofs.Common.{◌≡◌, ◌<◌, ◌+◌, ◌-◌, ◌*◌, ℕ, List, length, take, min, get_or, arith}
use Rattle.std.specs.Str.Parse.{digits_value}
use Rattle.std.specs.Char.{IsAsciiDigit}
use Rattle.std.proofs.lemmas.Int.Digits.{digits_value_more}
use Rattle.std.proofs.lemmas.Str.{digit_value_digit}

-- The capped value of one more digit.
pub capped_more : (xs : List ℕ) (i total next : ℕ) → i < length xs → total ≡ min (digits_value 10 (take i xs)) 1048577
    → IsAsciiDigit (get_or xs i 0) → next ≡ min (total * 10 + (get_or xs i 0 - 48)) 1048577 → next ≡ min (digits_value 10 (take (i + 1) xs)) 1048577
capped_more xs i total next h e d f = omega (arith, digits_value_more 10 xs i h, digit_value_digit (get_or xs i 0) d, e, f)
