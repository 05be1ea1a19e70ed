-- The warnings of a token file.
use Rattle.std.specs.Prelude.{ℕ, ◌+◌, ◌||◌, Bool, not, nat_lt, option_and_then, List, [], ◌∷◌, ◌++◌, codes, length, Option, Some, None, if◌then◌else◌}
use Rattle.std.specs.List.{list_any}
use Rattle.std.specs.Option.{option_map_or}
use Rattle.toml.specs.Data.{Data, Items, Members, no_items, item, no_members, member, as_array, as_str, as_table, get, table}
use Rattle.toml.specs.Parse.{parse_document}
use Rattle.entity_core.specs.IdTexts.{name_fault, same_text}
use Rattle.policy_core.specs.declared.scope.Scope.{Scope}
use Rattle.policy_core.specs.declared.scope.Scope.TheVariants.{StrategicCoordination, ConformanceMonitoring, ConstraintProcessing, ConstraintManagement, AvailabilityArbitration}
use Rattle.token_conf.specs.TokenFile.{is_name_of, text_at}
use Rattle.token_check.specs.TokenFileErrors.{tables_of}
use Rattle.token_check.specs.declared.warning.TheConstants.{SHORTEST_SALT}
use Rattle.token_check.specs.declared.warning.Warning.{Warning}
use Rattle.token_check.specs.declared.warning.Warning.TheVariants as warning

-- The warning, if its condition holds.
abbrev pub when : Bool → Warning → List Warning
when is_so w = if is_so then w ∷ [] else []

-- ---- the salt

-- True if the salt occurs in an example.
abbrev pub is_of_example : List ℕ → Bool
is_of_example salt = same_text salt (codes "demo")

abbrev pub warnings_of_salt : List ℕ → List Warning
warnings_of_salt salt =
    when (is_of_example salt) warning.ExampleSalt
    ++ when (nat_lt (length salt) SHORTEST_SALT) (warning.ShortSalt (length salt))

-- ---- keys

-- True if the reader reads a key: of the document, or of a token's table.
abbrev pub is_read : Option ℕ → List ℕ → Bool
is_read None key = same_text key (codes "salt") || same_text key (codes "token")
is_read (Some n) key =
    same_text key (codes "text") || (same_text key (codes "uss") || same_text key (codes "scopes"))

abbrev pub warnings_of_keys : Option ℕ → Members → List Warning
warnings_of_keys place no_members = []
warnings_of_keys place (member key d ms) =
    when (not (is_read place key)) (warning.Key place key) ++ warnings_of_keys place ms

-- ---- scopes

abbrev pub scopes : List Scope
scopes =
    StrategicCoordination
    ∷ ConformanceMonitoring
    ∷ ConstraintProcessing
    ∷ ConstraintManagement
    ∷ AvailabilityArbitration
    ∷ []

-- True if a scope has that name.
abbrev pub is_scope : List ℕ → Bool
is_scope name = list_any (λ scope. is_name_of scope name) scopes

-- Warnings of the names of a list that no scope has.
abbrev pub warnings_of_names : ℕ → Items → List Warning
warnings_of_names n no_items = []
warnings_of_names n (item d ds) =
    option_map_or (λ name. when (not (is_scope name)) (warning.Scope n name)) (as_str d) []
    ++ warnings_of_names n ds

-- ---- all

-- Warnings of the table with that index.
abbrev pub warnings_of_table : ℕ → Data → List Warning
warnings_of_table n d =
    option_map_or (warnings_of_keys (Some n)) (as_table d) []
    ++ option_map_or (warnings_of_names n) (option_and_then as_array (get (codes "scopes") d)) []

-- Warnings of the tables from that index on.
abbrev pub warnings_of_tables : ℕ → List Data → List Warning
warnings_of_tables n [] = []
warnings_of_tables n (d ∷ ds) = warnings_of_table n d ++ warnings_of_tables (n + 1) ds

-- Warnings of the list `token`: that it has no table, or of its tables.
abbrev pub warnings_of_list : List Data → List Warning
warnings_of_list [] = warning.NoToken ∷ []
warnings_of_list (d ∷ ds) = warnings_of_tables 0 (d ∷ ds)

-- Warnings of the member `token`; if it does not exist, there is no token.
abbrev pub warnings_of_member : Option Data → List Warning
warnings_of_member None = warning.NoToken ∷ []
warnings_of_member (Some d) = option_map_or (λ ds. warnings_of_list (tables_of ds)) (as_array d) []

-- Warnings of a document: of its salt, of its keys, and of its tokens.
abbrev pub warnings_of : Data → List Warning
warnings_of document =
    option_map_or warnings_of_salt (text_at (codes "salt") name_fault document) []
    ++ (option_map_or (warnings_of_keys None) (as_table document) []
    ++ warnings_of_member (get (codes "token") document))

-- Warnings of a text; none if it is not TOML.
abbrev pub warnings_in : List ℕ → List Warning
warnings_in text = option_map_or (λ members. warnings_of (table members)) (parse_document text) []
