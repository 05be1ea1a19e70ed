-- The supplier list, which says for which USSs an organization may act.
use Rattle.std.specs.Prelude.{ℕ, List, [], ◌∷◌, ◌++◌, ◌==◌, Bool, true}
use Rattle.std.specs.List.{list_all, list_any, slice_split}
use Rattle.std.specs.Str.{bytes_eq}
use Rattle.pool_entry.specs.Suppliers.{suppliers_in}
use Rattle.pool_etcd.specs.declared.log_value.LogEntry.{LogEntry}
use Rattle.pool_etcd.specs.Names.{organization_of}

-- The lines of a text: what stands before, between and behind its line feeds.
abbrev pub lines_of : List ℕ → List (List ℕ)
lines_of text = slice_split (λ b. b == 10) text

-- The line that lets an organization act for a USS.
abbrev pub line_of : (organization uss : List ℕ) → List ℕ
line_of organization uss = organization ++ 32 ∷ uss

-- True if one of the lines lets the organization act for the USS.
abbrev pub has_line : (list organization uss : List ℕ) → Bool
has_line list organization uss = list_any (bytes_eq (line_of organization uss)) (lines_of list)

-- True if the list lets the organization of the key act for the USS. The empty list lets every
-- organization act for every USS.
abbrev pub admits : (list key uss : List ℕ) → Bool
admits [] key uss = true
admits (b ∷ rest) key uss = has_line (b ∷ rest) (organization_of key) uss

-- True if the list lets the organization of the entry's key act for the USS of each of its calls.
abbrev pub is_admitted : List ℕ → LogEntry → Bool
is_admitted list e = list_all (admits list e.key) (suppliers_in e.bytes)
