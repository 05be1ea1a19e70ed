-- The positions of the statements of a document.
use Rattle.std.specs.Prelude.{◌≡◌, ℕ, ◌+◌, ◌==◌, List, [], ◌∷◌, Some, count_by, length, slice_range, string_bytes, take}
use Rattle.toml_parser.specs.Lexical.{skip_ws}
use Rattle.toml_parser.specs.Strings.{Key, key}
use Rattle.token_check.specs.declared.statement.Form.{Form}
use Rattle.token_check.specs.declared.statement.Form.TheVariants as form
use Rattle.token_check.specs.declared.statement.Statement.{Statement}

-- The line of a byte, from 1.
abbrev pub line_at : List ℕ → ℕ → ℕ
line_at text at = 1 + count_by (λ byte. byte == 10) (take at text)

-- The number of bytes of a statement before its key.
abbrev pub width_of : Form → ℕ
width_of form.Pair = 0
width_of form.Table = 1
width_of form.Item = 2

-- The text from a byte on.
abbrev pub from : ℕ → List ℕ → List ℕ
from at text = slice_range text at (length text)

-- The first word of a key that has all but its last word in a list.
abbrev pub first_of : List (List ℕ) → List ℕ → List ℕ
first_of [] last = last
first_of (word ∷ words) last = word

abbrev pub first_word : Key → List ℕ
first_word k = first_of k.0 k.1

-- Holds if the statement's brackets and a key are written at its byte, and the first word of the
-- key is its name.
abbrev pub IsWrittenIn : List ℕ → Statement → Type 0
IsWrittenIn text statement =
    (k : Key) × (rest : List ℕ)
    × (key (skip_ws (from (width_of statement.form) (from statement.at text))) ≡ Some (k, rest))
    × (string_bytes statement.name ≡ first_word k)
