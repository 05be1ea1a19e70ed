-- Ids of entities, and the result of parsing one.
use Rattle.std.specs.Prelude.{◌≡◌, ◌≢◌, ℕ, List, length, Result, Ok, Err, Option, Some, None, option_map}
use Rattle.std.specs.Int.{w128, to_be_bytes, from_be_bytes}
use Rattle.uuid.specs.Text.{hyphenated_text, lower, parsed_hyphenated}
use Rattle.entity_core.specs.declared.id_fault.IdFault.{IdFault}
use Rattle.entity_core.specs.declared.id_fault.IdFault.TheVariants.{Length, Form, Memory}

-- The number that a text represents: a hyphenated UUID of 36 characters, its letters in either
-- case.
abbrev pub spelled : List ℕ → Option ℕ
spelled text = option_map (from_be_bytes w128) (parsed_hyphenated text)

-- The printed form of an id, in lower case.
abbrev pub printed : ℕ → List ℕ
printed number = hyphenated_text lower (to_be_bytes w128 number)

-- Holds if parsing the text can have this result: the id that it represents, or its first fault.
abbrev pub ReadsId : List ℕ → Result ℕ IdFault → Type 0
ReadsId text (Ok number) = spelled text ≡ Some number
ReadsId text (Err Length) = length text ≢ 36
ReadsId text (Err Form) = (length text ≡ 36) × (spelled text ≡ None)
ReadsId text (Err Memory) = ⊥
