-- Members of JSON objects, as etcd writes them. It leaves out members that are 0, false or empty.
use Rattle.std.specs.Prelude.{ℕ, List, [], ◌∷◌, Bool, false, Option, Some, None, option_map, option_and_then}
use Rattle.std.specs.Result.{result_ok}
use Rattle.serde_json.specs.Data.{Data, Items, no_items, item}
use Rattle.serde_json.specs.Find.{get, as_array, as_bool, as_str}
use Rattle.base64.specs.Engines.{standard}
use Rattle.base64.specs.GeneralPurpose.{decode_of}
use Rattle.pool_etcd.specs.Number.{number_of}

-- The next step of a reading, applied to what the step before has read.
infixl 10 ◌>>=◌
abbrev pub ◌>>=◌ : {A B : Type 0} → Option A → (A → Option B) → Option B
o >>= f = option_and_then f o

-- The value that is read from a member, and another one if it is absent.
abbrev pub read_or : {A : Type 0} → A → (Data → Option A) → Option Data → Option A
read_or other read None = Some other
read_or other read (Some d) = read d

-- The number in a text.
abbrev pub number_in : Data → Option ℕ
number_in d = option_and_then number_of (as_str d)

-- The number in a member. An absent one is 0.
abbrev pub number_at : List ℕ → Data → Option ℕ
number_at name d = read_or 0 number_in (get name d)

-- The number in a member, which must be there.
abbrev pub required_number : List ℕ → Data → Option ℕ
required_number name d = option_and_then number_in (get name d)

-- The flag in a member. An absent one is false.
abbrev pub flag_at : List ℕ → Data → Option Bool
flag_at name d = read_or false as_bool (get name d)

-- The bytes of a text in base64.
unfoldable pub bytes_of : List ℕ → Option (List ℕ)
bytes_of s = result_ok (decode_of standard s)

abbrev pub bytes_in : Data → Option (List ℕ)
bytes_in d = option_and_then bytes_of (as_str d)

-- The bytes in a member. Absent ones are empty.
abbrev pub bytes_at : List ℕ → Data → Option (List ℕ)
bytes_at name d = read_or [] bytes_in (get name d)

-- The items in a member. Absent ones are none.
abbrev pub items_at : List ℕ → Data → Option Items
items_at name d = read_or no_items as_array (get name d)

-- The values that are read from the items, if each can be read.
abbrev pub each : {A : Type 0} → (Data → Option A) → Items → Option (List A)
each read no_items = Some []
each read (item d ds) = option_and_then (λ x. option_map (λ xs. x ∷ xs) (each read ds)) (read d)
