-- The tokens of which responses are printed, for private clauses.
use Rattle.std.specs.Prelude.{ℕ, Bool, List, [], ◌∷◌, ◌++◌, Option, Some, None, codes, decimal, flat_map}
use Rattle.json.specs.Token.{Token, boolean, key, number, string}
use Rattle.json.specs.Tree.{json_tokens}
use Rattle.serde_json.specs.Data.{Data}
use Rattle.serde_json.specs.Written.{outline}
use Rattle.entity_core.specs.Entity.{state_name}
use Rattle.entity_core.specs.declared.nature.Nature.{Nature}
use Rattle.entity_core.specs.declared.nature.Nature.TheVariants.{Intent, Constraint}
use Rattle.wire_body.specs.Naming.{naming_text}

-- The tokens of a value.
abbrev pub tokens_of : Data → List Token
tokens_of d = json_tokens (outline d)

-- A member with a text.
abbrev pub text_tokens : List ℕ → List ℕ → List Token
text_tokens name text = key name ∷ string text ∷ []

-- A member with a number.
abbrev pub number_tokens : List ℕ → ℕ → List Token
number_tokens name n = key name ∷ number (decimal n) ∷ []

-- A member with a Boolean.
abbrev pub flag_tokens : List ℕ → Bool → List Token
flag_tokens name flag = key name ∷ boolean flag ∷ []

-- The OVN, if the caller may see it.
abbrev pub ovn_tokens : Option (List ℕ) → List Token
ovn_tokens None = []
ovn_tokens (Some ovn) = text_tokens (codes "ovn") ovn

-- The members that only references of one kind have.
abbrev pub nature_tokens : Nature → List Token
nature_tokens (Intent state named) = text_tokens (codes "state") (state_name state) ++ text_tokens (codes "subscription_id") (naming_text named)
nature_tokens Constraint = []

-- The values of the items, one after the other.
abbrev pub each_tokens : {A : Type 0} → (A → Data) → List A → List Token
each_tokens data_of = flat_map (λ x. tokens_of (data_of x))
