-- Numbers as texts.
use Rattle.std.specs.Prelude.{ℕ, ◌^◌, List, ◌&&◌, nat_lt, if◌then◌else◌, Option, Some, None}
use Rattle.std.specs.Fmt.{decimal}
use Rattle.std.specs.Str.{bytes_eq}
use Rattle.std.specs.Str.Parse.{digits_value}

-- The number below 2 ^ 64 that a text is in decimal, without a sign or leading zeros.
unfoldable pub number_of : List ℕ → Option ℕ
number_of s =
    if bytes_eq (decimal (digits_value 10 s)) s && nat_lt (digits_value 10 s) (2 ^ 64)
    then Some (digits_value 10 s) else None
