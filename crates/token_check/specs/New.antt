-- The format of a new token and a new salt.
use Rattle.std.specs.Prelude.{◌≡◌, ◌==◌, ℕ, false, List, [], ◌∷◌, ◌++◌, codes, None}
use Rattle.std.specs.List.{list_all, slice_split}
use Rattle.hex.specs.Hex.{encode_lower}
use Rattle.entity_core.specs.IdTexts.{name_fault}
use Rattle.token_check.specs.Warnings.{is_scope}
use Rattle.token_check.specs.declared.new.NewFault.{NewFault}
use Rattle.token_check.specs.declared.new.NewFault.TheVariants as fault

-- The line of a salt: its bytes in hexadecimal.
abbrev pub salt_line_of : List ℕ → List ℕ
salt_line_of random = codes "salt = \"" ++ (encode_lower random ++ codes "\"\n")

-- The names of a text, separated by commas.
abbrev pub names_in : List ℕ → List (List ℕ)
names_in text = slice_split (λ byte. byte == 44) text

abbrev pub quoted : List ℕ → List ℕ
quoted name = codes "\"" ++ (name ++ codes "\"")

-- Names in quotes, each after a comma.
abbrev pub list_after : List (List ℕ) → List ℕ
list_after [] = []
list_after (name ∷ names) = (codes ", " ++ quoted name) ++ list_after names

abbrev pub list_of : List (List ℕ) → List ℕ
list_of [] = []
list_of (name ∷ names) = quoted name ++ list_after names

-- The table of a token, whose text is the bytes in hexadecimal.
abbrev pub table_of : List ℕ → List (List ℕ) → List ℕ → List ℕ
table_of uss scopes random =
    codes "\n[[token]]\ntext = \""
    ++ (encode_lower random
    ++ (codes "\"\nuss = \""
    ++ (uss
    ++ (codes "\"\nscopes = ["
    ++ (list_of scopes ++ codes "]\n")))))

-- Why no token is generated: the id of the USS is invalid, or it is valid and a name is that of no
-- scope.
abbrev pub IsWhyNone : List ℕ → List ℕ → NewFault → Type 0
IsWhyNone uss scopes (fault.Uss message) = name_fault uss ≡ None → ⊥
IsWhyNone uss scopes (fault.Scopes message) =
    (name_fault uss ≡ None) × (list_all is_scope (names_in scopes) ≡ false)
IsWhyNone uss scopes fault.Memory = Unit {0}
