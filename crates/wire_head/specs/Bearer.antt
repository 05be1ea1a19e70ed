-- The bearer token of a request, by the fields of its head (RFC 6750, section 2.1).
use Rattle.std.specs.Prelude.{ℕ, ◌==◌, ◌&&◌, List, [], ◌∷◌, length, take, drop, codes, if◌then◌else◌, nat_lt, Option, Some, None}
use Rattle.std.specs.List.{list_all}
use Rattle.std.specs.Char.{is_ascii_graphic}
use Rattle.wire_head.specs.Fields.{Fields, equals_ignoring_case, values_of}

-- The bytes after the leading spaces.
abbrev pub skip_spaces : List ℕ → List ℕ
skip_spaces [] = []
skip_spaces (b ∷ bytes) = if b == 32 then skip_spaces bytes else b ∷ bytes

-- The token, if the text is one or more visible ASCII characters.
abbrev pub visible : List ℕ → Option (List ℕ)
visible text =
    if (nat_lt 0 (length text) && list_all is_ascii_graphic text) then Some text else None

-- The token after one or more spaces.
abbrev pub spaced : List ℕ → Option (List ℕ)
spaced [] = None
spaced (b ∷ bytes) = if b == 32 then visible (skip_spaces bytes) else None

-- The token after the scheme `Bearer`, which is compared without case.
abbrev pub bearer_in : List ℕ → Option (List ℕ)
bearer_in value = if equals_ignoring_case (codes "Bearer") (take 6 value) then spaced (drop 6 value) else None

-- The token, if exactly one field gives it.
abbrev pub borne_by : List (List ℕ) → Option (List ℕ)
borne_by [] = None
borne_by (value ∷ []) = bearer_in value
borne_by (a ∷ b ∷ more) = None

abbrev pub bearer_token : Fields → Option (List ℕ)
bearer_token fields = borne_by (values_of (codes "Authorization") fields)
