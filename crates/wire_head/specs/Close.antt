-- Closing a connection (RFC 9112, section 9.6).
use Rattle.std.specs.Prelude.{ℕ, Bool, ◌==◌, ◌||◌, List, codes}
use Rattle.std.specs.List.{list_any, slice_split}
use Rattle.httparse.specs.Grammar.{trim_ows}
use Rattle.wire_head.specs.Fields.{Fields, equals_ignoring_case, values_of}

-- Returns true if the option is `close`, compared without case and without spaces and tabs at its
-- ends.
abbrev pub is_close : List ℕ → Bool
is_close word = equals_ignoring_case (codes "close") (trim_ows word)

-- Returns true if `close` is one of the comma-separated options.
abbrev pub is_close_option : List ℕ → Bool
is_close_option value = list_any is_close (slice_split (λ b. b == 44) value)

-- Returns true if the version is 1.0, or a field Connection has the option `close`.
abbrev pub closes_by : ℕ → Fields → Bool
closes_by minor fields = minor == 0 || list_any is_close_option (values_of (codes "connection") fields)
