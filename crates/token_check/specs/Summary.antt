-- The number of tokens and USSs of a token file, and the length of its salt.
use Rattle.std.specs.Prelude.{ℕ, ◌+◌, Bool, false, not, List, [], ◌∷◌, codes, length, nat_eq, option_and_then, Option, if◌then◌else◌}
use Rattle.std.specs.Cmp.Lexicographic.{pointwise}
use Rattle.std.specs.List.{list_any}
use Rattle.std.specs.Option.{option_map_or}
use Rattle.toml.specs.Data.{Data, as_array, get}
use Rattle.entity_core.specs.IdTexts.{name_fault}
use Rattle.token_conf.specs.TokenFile.{text_at}
use Rattle.token_check.specs.TokenFileErrors.{tables_of}
use Rattle.token_check.specs.declared.summary.Summary.{Summary}

-- The USS of a table, if it is valid.
abbrev pub uss_of : Data → Option (List ℕ)
uss_of d = text_at (codes "uss") name_fault d

-- True if a table, or one of some tables, has that USS.
abbrev pub has_uss : List ℕ → Data → Bool
has_uss uss d = option_map_or (λ u. pointwise nat_eq uss u) (uss_of d) false

abbrev pub is_uss_of_any : List ℕ → List Data → Bool
is_uss_of_any uss ds = list_any (has_uss uss) ds

-- The number of USSs of some tables. Each is counted at its last table.
abbrev pub has_new_uss : Data → List Data → Bool
has_new_uss d after = option_map_or (λ uss. not (is_uss_of_any uss after)) (uss_of d) false

abbrev pub suppliers_of : List Data → ℕ
suppliers_of [] = 0
suppliers_of (d ∷ ds) = (if has_new_uss d ds then 1 else 0) + suppliers_of ds

-- The tables of a document's list `token`; none if it is no list.
abbrev pub tokens_of : Data → List Data
tokens_of document = option_map_or tables_of (option_and_then as_array (get (codes "token") document)) []

-- The number of characters of its salt, if it is valid.
abbrev pub salt_length : Data → ℕ
salt_length document = option_map_or length (text_at (codes "salt") name_fault document) 0

abbrev pub summary_of : Data → Summary
summary_of document = record {
  tokens = length (tokens_of document);
  suppliers = suppliers_of (tokens_of document);
  salt = salt_length document;
}
