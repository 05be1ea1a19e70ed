-- The textual form of ids, and the result of parsing one.
use Rattle.std.specs.Prelude.{◌≡◌, ℕ, ◌==◌, ◌&&◌, ◌||◌, nat_eq, nat_le, Bool, List, length, Result, MatchResult, Option, Some, None, if◌then◌else◌}
use Rattle.std.specs.List.{list_all}
use Rattle.std.specs.Cmp.Lexicographic.{pointwise}
use Rattle.entity_core.specs.declared.id_fault.IdFault.{IdFault}
use Rattle.entity_core.specs.declared.id_fault.IdFault.TheVariants.{Length, Form, Memory}

-- True if two texts are equal byte for byte.
abbrev pub same_text : List ℕ → List ℕ → Bool
same_text a b = pointwise nat_eq a b

-- True if a byte is in a range, both ends included.
abbrev pub is_from : ℕ → ℕ → ℕ → Bool
is_from first last b = nat_le first b && nat_le b last

-- True for ASCII letters, digits, '-', '.' and '_'.
abbrev pub is_name_byte : ℕ → Bool
is_name_byte b =
    is_from 48 57 b || is_from 65 90 b || is_from 97 122 b || b == 45 || b == 46 || b == 95

-- True for visible ASCII characters: no controls and no space.
abbrev pub is_visible_byte : ℕ → Bool
is_visible_byte b = is_from 33 126 b

-- The first fault of a text: a wrong length, then a wrong byte.
abbrev pub first_fault : ℕ → ℕ → (ℕ → Bool) → List ℕ → Option IdFault
first_fault least most is_right text =
    if is_from least most (length text) then (if list_all is_right text then None else Some Form)
    else Some Length

-- The fault of a USS id or a salt.
abbrev pub name_fault : List ℕ → Option IdFault
name_fault text = first_fault 1 64 is_name_byte text

-- The fault of an OVN.
abbrev pub ovn_fault : List ℕ → Option IdFault
ovn_fault text = first_fault 16 128 is_visible_byte text

-- The fault of a base URL.
abbrev pub url_fault : List ℕ → Option IdFault
url_fault text = first_fault 1 255 is_visible_byte text

-- Holds if parsing can report this fault. `Memory` is possible only if the text has no fault.
abbrev pub IsReadFault : Option IdFault → IdFault → Type 0
IsReadFault fault Memory = fault ≡ None
IsReadFault fault Length = fault ≡ Some Length
IsReadFault fault Form = fault ≡ Some Form

-- Holds if a text without a fault is returned unchanged or memory ran out, and otherwise its first
-- fault is reported.
abbrev pub ReadsText : Option IdFault → List ℕ → Result (List ℕ) IdFault → Type 0
ReadsText fault text result =
    MatchResult result (λ id. (id ≡ text) × (fault ≡ None)) (λ e. IsReadFault fault e)
