-- The errors of a token file, and their relation to its reader.
use Rattle.std.specs.Prelude.{◌≡◌, ℕ, Bool, false, List, [], ◌∷◌, ◌++◌, codes, length, is_some, nat_eq, Option, Some, None, if◌then◌else◌, Result, Err, IsOk}
use Rattle.std.specs.Cmp.Lexicographic.{pointwise}
use Rattle.std.specs.List.{position_from}
use Rattle.std.specs.Option.{option_map_or}
use Rattle.toml.specs.Data.{Data, Items, no_items, item, as_array, get, table}
use Rattle.toml.specs.Parse.{parse_document}
use Rattle.entity_core.specs.IdTexts.{name_fault}
use Rattle.token_conf.specs.TokenFile.{TokenFile, scopes_at, text_at, token_fault}
use Rattle.token_conf.specs.declared.conf_fault.ConfFault.{ConfFault}
use Rattle.token_check.specs.TokenFileError.{fault_of}
use Rattle.token_check.specs.declared.token_file_error.TokenFileError.{TokenFileError}
use Rattle.token_check.specs.declared.token_file_error.TokenFileError.TheVariants as file_error

-- The tables of a list, in its order.
abbrev pub tables_of : Items → List Data
tables_of no_items = []
tables_of (item d ds) = d ∷ tables_of ds

-- The error, if something is invalid.
abbrev pub unless : Bool → TokenFileError → List TokenFileError
unless is_right m = if is_right then [] else m ∷ []

-- The text of a table's token, if it is valid.
abbrev pub token_text : Data → Option (List ℕ)
token_text d = text_at (codes "text") token_fault d

-- True if the token of a table has that text.
abbrev pub has_text : List ℕ → Data → Bool
has_text text d = option_map_or (λ t. pointwise nat_eq text t) (token_text d) false

-- The index of the first of some tables whose token has that text.
abbrev pub holder_of : List ℕ → List Data → Option ℕ
holder_of text ds = position_from (has_text text) 0 ds

-- The error that the text of a token occurred before, in a table with this index.
abbrev pub repeated_at : ℕ → Option ℕ → List TokenFileError
repeated_at n earlier = option_map_or (λ m. file_error.Repeated n m ∷ []) earlier []

-- The errors of a table after these: of its text, its USS and its scopes, and of a text that
-- occurred before.
abbrev pub errors_of_table : List Data → Data → List TokenFileError
errors_of_table before d =
    let n = length before in
    unless (is_some (token_text d)) (file_error.Token n)
    ++ (unless (is_some (text_at (codes "uss") name_fault d)) (file_error.Uss n)
    ++ (unless (is_some (scopes_at d)) (file_error.Scopes n)
    ++ option_map_or (λ text. repeated_at n (holder_of text before)) (token_text d) []))

-- The errors of some tables after these, table by table.
abbrev pub errors_of_tables : List Data → List Data → List TokenFileError
errors_of_tables before [] = []
errors_of_tables before (d ∷ ds) =
    errors_of_table before d ++ errors_of_tables (before ++ d ∷ []) ds

-- The errors of the member `token`; none if it does not exist.
abbrev pub errors_of_list : Option Data → List TokenFileError
errors_of_list None = []
errors_of_list (Some d) =
    option_map_or (λ ds. errors_of_tables [] (tables_of ds)) (as_array d) (file_error.List ∷ [])

-- The errors of a document: that of its salt, and then those of its tables.
abbrev pub errors_of : Data → List TokenFileError
errors_of document =
    unless (is_some (text_at (codes "salt") name_fault document)) file_error.Salt
    ++ errors_of_list (get (codes "token") document)

-- All errors of a text.
abbrev pub errors_in : List ℕ → List TokenFileError
errors_in text = option_map_or (λ members. errors_of (table members)) (parse_document text) (file_error.Toml ∷ [])

-- Holds if the reader accepts a file without errors, and otherwise returns the fault of the first
-- error.
abbrev pub Explain : List TokenFileError → Result TokenFile ConfFault → Type 0
Explain [] said = IsOk said
Explain (m ∷ ms) said = said ≡ Err (fault_of m)
