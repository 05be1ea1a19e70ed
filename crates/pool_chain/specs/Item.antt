-- The items of a chain, which are changes of keys, and their texts.
use Rattle.std.specs.Prelude.{◌≡◌, ℕ, ◌<◌, ◌^◌, List, [], ◌∷◌, ◌++◌, length, Option, Some, None}
use Rattle.std.specs.Fmt.{decimal}

-- A key with the value that it got, or without a value if it was deleted.
pub record Item : Type 0 where
  pub key : List ℕ
  pub value : Option (List ℕ)

-- Bytes behind their number and a colon.
abbrev pub sized : List ℕ → List ℕ
sized bytes = decimal (length bytes) ++ 58 ∷ bytes

-- A value, or a hyphen for none.
abbrev pub value_text : Option (List ℕ) → List ℕ
value_text None = 45 ∷ []
value_text (Some value) = sized value

-- The text of an item.
abbrev pub spell : Item → List ℕ
spell item = sized item.key ++ value_text item.value

-- Holds if the value has less than 2^64 bytes.
abbrev pub FitsValue : Option (List ℕ) → Type 0
FitsValue None = Unit {0}
FitsValue (Some value) = length value < 2 ^ 64

-- Holds if the key and the value have less than 2^64 bytes each.
abbrev pub Fits : Item → Type 0
Fits item = (length item.key < 2 ^ 64) × FitsValue item.value

-- No text of an item is one of another item, also if other bytes follow.
abbrev pub SpellingIsUnique : Type 0
SpellingIsUnique =
    (x y : Item) (a b : List ℕ) → Fits x → Fits y → spell x ++ a ≡ spell y ++ b → (x ≡ y) × (a ≡ b)
