-- What a token file says, or the first fault in it.
use Rattle.std.specs.Prelude.{◌≡◌, ℕ, Bool, List, [], ◌∷◌, codes, is_none, nat_eq, Option, Some, None, option_map, option_and_then, if◌then◌else◌, Result, Ok, Err, refl}
use Rattle.std.specs.List.{list_any}
use Rattle.std.specs.Cmp.Lexicographic.{pointwise}
use Rattle.std.specs.FinMap.{FinMap, code, contains_key, empty, from_entries, insert}
use Rattle.std.specs.Coded.{Coded, code_by, coded×, coded_list, coded_ℕ}
use Rattle.toml.specs.Data.{Data, Items, no_items, item, as_str, as_array, get, table}
use Rattle.toml.specs.Parse.{parse_document}
use Rattle.entity_core.specs.Airspace.{text_cmp}
use Rattle.entity_core.specs.IdTexts.{first_fault, is_visible_byte, name_fault}
use Rattle.entity_core.specs.declared.id_fault.IdFault.{IdFault}
use Rattle.policy_core.specs.Scope.{Scopes, scope_name, scopes_where}
use Rattle.policy_core.specs.declared.scope.Caller.{Caller}
use Rattle.policy_core.specs.contracts.scope.Caller as caller
use Rattle.policy_core.specs.declared.scope.Scope.{Scope}
use Rattle.token_conf.specs.declared.conf_fault.ConfFault.{ConfFault}
use Rattle.token_conf.specs.declared.conf_fault.ConfFault.TheVariants as fault

-- The caller of each token, by the text of the token.
abbrev pub Callers : Type 0
Callers = FinMap text_cmp Caller

-- The contents of a file.
pub record TokenFile : Type 0 where
  pub salt : List ℕ
  pub callers : Callers

-- A file is stored as the pair of its fields.
abbrev pub file_code : Coded TokenFile
file_code =
    code_by (List ℕ × Callers)
    (coded× (coded_list coded_ℕ) (code (coded_list coded_ℕ) caller.the_row.coded))
    (λ f. (f.salt, f.callers)) (λ p. record { salt = p.0; callers = p.1 }) (λ _. refl)

abbrev pub salt_of : TokenFile → List ℕ
salt_of file = file.salt

abbrev pub callers_of : TokenFile → Callers
callers_of file = file.callers

-- The map of some tokens, each a text and its caller. If two have the same text, the first counts.
abbrev pub callers_in : List (List ℕ × Caller) → Callers
callers_in tokens = from_entries tokens

-- The fault of a token's text, which has 1 to 255 visible bytes.
abbrev pub token_fault : List ℕ → Option IdFault
token_fault text = first_fault 1 255 is_visible_byte text

-- The text, if it has no fault.
abbrev pub faultless : (List ℕ → Option IdFault) → List ℕ → Option (List ℕ)
faultless fault_of text = if is_none (fault_of text) then Some text else None

-- The text at a key, if it is a text without a fault.
abbrev pub text_at : List ℕ → (List ℕ → Option IdFault) → Data → Option (List ℕ)
text_at key fault_of d = option_and_then (faultless fault_of) (option_and_then as_str (get key d))

-- The texts of a list, if each item is a text.
abbrev pub texts_of : Items → Option (List (List ℕ))
texts_of no_items = Some []
texts_of (item d ds) =
    option_and_then (λ text. option_map (λ texts. text ∷ texts) (texts_of ds)) (as_str d)

-- True if a text is the name of a scope.
abbrev pub is_name_of : Scope → List ℕ → Bool
is_name_of s text = pointwise nat_eq (scope_name s) text

-- The scopes whose names are among the texts. A text that names none adds none.
unfoldable pub scopes_named : List (List ℕ) → Scopes
scopes_named texts = scopes_where (λ s. list_any (is_name_of s) texts)

-- The scopes that the member `scopes` of a table names.
abbrev pub scopes_at : Data → Option Scopes
scopes_at d = option_map scopes_named (option_and_then texts_of (option_and_then as_array (get (codes "scopes") d)))

infixl 10 ◌>>=◌
abbrev pub ◌>>=◌ : {A B : Type 0} → Result A ConfFault → (A → Result B ConfFault)
    → Result B ConfFault
(Ok x) >>= f = f x
(Err e) >>= f = Err e

-- The value, or a fault if it does not exist.
abbrev pub or_fault : {A : Type 0} → ConfFault → Option A → Result A ConfFault
or_fault f (Some x) = Ok x
or_fault f None = Err f

-- The token of one table: its text and its caller. Its text differs from those of the known tokens.
unfoldable pub token_of : Data → Callers → Result (List ℕ × Caller) ConfFault
token_of d known = do
  text ← or_fault fault.Token (text_at (codes "text") token_fault d)
  uss ← or_fault fault.Uss (text_at (codes "uss") name_fault d)
  scopes ← or_fault fault.Scopes (scopes_at d)
  if contains_key known text then Err fault.Repeated
      else Ok (text, record { uss = uss; scopes = scopes })

-- The known tokens, plus the tokens of the tables in turn.
abbrev pub callers_after : Items → Callers → Result Callers ConfFault
callers_after no_items known = Ok known
callers_after (item d ds) known =
    token_of d known >>= (λ token. callers_after ds (insert known token.0 token.1))

-- The callers of the member `token`; none if it does not exist.
abbrev pub callers_at : Option Data → Result Callers ConfFault
callers_at None = Ok empty
callers_at (Some d) = or_fault fault.Token (as_array d) >>= (λ ds. callers_after ds empty)

-- The contents of the text, or its first fault.
unfoldable pub file_of : List ℕ → Result TokenFile ConfFault
file_of text = do
  members ← or_fault fault.Toml (parse_document text)
  salt ← or_fault fault.Salt (text_at (codes "salt") name_fault (table members))
  callers ← callers_at (get (codes "token") (table members))
  Ok (record { salt = salt; callers = callers })

-- Holds if a returned fault is the one of the file. `Memory` may be returned for any file.
abbrev pub Fails : {Y : Type 0} → ConfFault → Result Y ConfFault → Type 0
Fails fault.Memory said = Unit {0}
Fails fault.Toml said = said ≡ Err fault.Toml
Fails fault.Salt said = said ≡ Err fault.Salt
Fails fault.Token said = said ≡ Err fault.Token
Fails fault.Uss said = said ≡ Err fault.Uss
Fails fault.Scopes said = said ≡ Err fault.Scopes
Fails fault.Repeated said = said ≡ Err fault.Repeated

-- Holds if the result of a reader, seen through the view, is the specified one.
abbrev pub Gives : {X Y : Type 0} → (X → Y) → Result X ConfFault → Result Y ConfFault → Type 0
Gives view (Ok x) said = said ≡ Ok (view x)
Gives view (Err e) said = Fails e said

-- Holds if a reader of files returns what the file says.
abbrev pub ReadsFile : Result TokenFile ConfFault → Result TokenFile ConfFault → Type 0
ReadsFile said result = Gives (λ file. file) result said
