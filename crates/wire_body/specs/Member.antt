-- Members, lists and numbers of a JSON value.
use Rattle.std.specs.Prelude.{ℕ, List, [], ◌∷◌, ℤ, Option, Some, None, option_map, option_and_then}
use Rattle.serde_json.specs.Data.{Data, null, boolean, number, string, array, object, Items, no_items, item}
use Rattle.serde_json.specs.Find.{get, as_array, as_number, as_str}
use Rattle.serde_json.specs.Find as find

-- The next step of a reading, applied to what the step before has read.
infixl 10 ◌>>=◌
abbrev pub ◌>>=◌ : {A B : Type 0} → Option A → (A → Option B) → Option B
o >>= f = option_and_then f o

-- The value, unless a fault was found in it.
abbrev pub without_fault : {F A : Type 0} → Option F → A → Option A
without_fault None x = Some x
without_fault (Some fault) x = None

abbrev pub unless_null : Data → Option Data
unless_null null = None
unless_null (boolean b) = Some (boolean b)
unless_null (number n) = Some (number n)
unless_null (string s) = Some (string s)
unless_null (array ds) = Some (array ds)
unless_null (object ms) = Some (object ms)

-- The member with this name. A null member counts as absent, and only objects have members.
abbrev pub member_of : List ℕ → Data → Option Data
member_of name d = option_and_then unless_null (get name d)

-- The value that is read from a required member.
abbrev pub required : {A : Type 0} → (Data → Option A) → List ℕ → Data → Option A
required read name d = option_and_then read (member_of name d)

-- The value that is read from an optional member.
abbrev pub if_there : {A : Type 0} → (Data → Option A) → Option Data → Option (Option A)
if_there read None = Some None
if_there read (Some d) = option_map Some (read d)

abbrev pub optional : {A : Type 0} → (Data → Option A) → List ℕ → Data → Option (Option A)
optional read name d = if_there read (member_of name d)

-- The values that are read from the items, if each can be read.
abbrev pub each : {A : Type 0} → (Data → Option A) → Items → Option (List A)
each read no_items = Some []
each read (item d ds) = option_and_then (λ x. option_map (λ xs. x ∷ xs) (each read ds)) (read d)

-- The list that is read from an array. A null in it is an item like any other.
abbrev pub list_of : {A : Type 0} → (Data → Option A) → Data → Option (List A)
list_of read d = option_and_then (each read) (as_array d)

-- A whole number, with or without a sign.
abbrev pub signed_in : Data → Option ℤ
signed_in d = option_and_then find.as_i64 (as_number d)

abbrev pub unsigned_in : Data → Option ℕ
unsigned_in d = option_and_then find.as_u64 (as_number d)
