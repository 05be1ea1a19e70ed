-- The length of a request body, by the fields of the head.
use Rattle.std.specs.Prelude.{ℕ, ◌&&◌, Bool, List, [], ◌∷◌, length, codes, if◌then◌else◌, nat_lt, nat_le, Result, Ok, Err}
use Rattle.std.specs.List.{list_all}
use Rattle.std.specs.Char.{is_ascii_digit}
use Rattle.std.specs.Str.Parse.{digits_value}
use Rattle.wire_head.specs.declared.rule.WireRule.{WireRule}
use Rattle.wire_head.specs.declared.rule.WireRule.TheVariants.{Transfer, Length, BodySize}
use Rattle.wire_head.specs.Fields.{Fields, values_of}

-- Returns true if the text is one or more decimal digits.
abbrev pub is_number : List ℕ → Bool
is_number text = nat_lt 0 (length text) && list_all is_ascii_digit text

-- The number, if it is at most 1,048,576. It can have any number of digits.
abbrev pub declared_length : List ℕ → Result ℕ WireRule
declared_length text =
    if is_number text
    then (if nat_le (digits_value 10 text) 1048576 then Ok (digits_value 10 text) else Err BodySize)
    else Err Length

-- The length that one field gives. It is zero without such a field; two fields are an error.
abbrev pub length_by : List (List ℕ) → Result ℕ WireRule
length_by [] = Ok 0
length_by (text ∷ []) = declared_length text
length_by (a ∷ b ∷ more) = Err Length

-- The first broken rule: no transfer coding, one length, and at most the maximum.
abbrev pub reject_coded : List (List ℕ) → Result ℕ WireRule → Result ℕ WireRule
reject_coded [] told = told
reject_coded (a ∷ more) told = Err Transfer

abbrev pub content_length : Fields → Result ℕ WireRule
content_length fields = reject_coded (values_of (codes "transfer-encoding") fields) (length_by (values_of (codes "content-length") fields))
