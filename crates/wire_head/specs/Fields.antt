-- The fields of a head, as a list of names and values. Names are compared without case.
use Rattle.std.specs.Prelude.{◌≡◌, ◌≤◌, ℕ, Bool, List, [], ◌∷◌, length, map, filter}
use Rattle.std.specs.Str.{bytes_eq}
use Rattle.std.specs.Char.{to_ascii_lowercase}
use Rattle.httparse.specs.Spans.{span_bytes}
use Rattle.wire_head.specs.declared.fields.Occurrence.{Occurrence}
use Rattle.wire_head.specs.declared.fields.Occurrence.TheVariants.{Absent, One, Many}

-- The name and the value of each field.
abbrev pub Fields : Type 0
Fields = List (List ℕ × List ℕ)

-- Returns true if two texts are equal without case.
abbrev pub equals_ignoring_case : List ℕ → List ℕ → Bool
equals_ignoring_case word text = bytes_eq (map to_ascii_lowercase text) (map to_ascii_lowercase word)

-- The values of the fields with this name, in order.
abbrev pub values_of : List ℕ → Fields → List (List ℕ)
values_of name fields = map (λ f. f.1) (filter (λ f. equals_ignoring_case name f.0) fields)

-- Holds if this is the result of a search for the only field of a name in a buffer.
abbrev pub IsOccurrence : List ℕ → List (List ℕ) → Occurrence → Type 0
IsOccurrence buffer values Absent = values ≡ []
IsOccurrence buffer values (One span) = (values ≡ span_bytes buffer span ∷ [])
    × (span.start ≤ span.end) × (span.end ≤ length buffer)
IsOccurrence buffer values Many = 2 ≤ length values
