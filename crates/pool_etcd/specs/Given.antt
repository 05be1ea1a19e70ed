-- The result of a reader, compared with the value of its definition.
use Rattle.std.specs.Prelude.{◌≡◌, ℕ, List, Option, Some, None, Result, Ok, Err, IsUtf8}
use Rattle.serde_json.specs.Data.{Data}
use Rattle.serde_json.specs.Read.{read}
use Rattle.pool_etcd.specs.declared.response_fault.ResponseFault.{ResponseFault}
use Rattle.pool_etcd.specs.declared.response_fault.ResponseFault.TheVariants.{Memory, NotJson, Unexpected}

-- Holds if the fault is possible for a JSON value: `Unexpected` exactly if the definition has no
-- value, `Memory` always, `NotJson` never.
abbrev pub Fails : {A : Type 0} → ResponseFault → Option A → Type 0
Fails Memory said = Unit {0}
Fails NotJson said = ⊥
Fails Unexpected said = said ≡ None

-- Holds if the result is the value of the definition, under a view, or a possible fault.
abbrev pub GivesBy : {X A : Type 0} → (X → A) → Result X ResponseFault → Option A → Type 0
GivesBy view (Ok x) said = said ≡ Some (view x)
GivesBy view (Err fault) said = Fails fault said

abbrev pub Gives : {A : Type 0} → Result A ResponseFault → Option A → Type 0
Gives result said = GivesBy (λ x. x) result said

-- Holds if the bytes are UTF-8, and JSON with this value.
abbrev pub IsJson : List ℕ → Data → Type 0
IsJson bytes d = IsUtf8 bytes × (read bytes ≡ Some d)

-- Holds if the result is the value that the definition has for the JSON of the bytes, or a
-- possible fault: `NotJson` only if the bytes are no JSON, `Unexpected` only if they are JSON for
-- which the definition has no value.
abbrev pub Reads : {A : Type 0} → (Data → Option A) → List ℕ → Result A ResponseFault → Type 0
Reads form bytes (Ok x) = (d : Data) × IsJson bytes d × (form d ≡ Some x)
Reads form bytes (Err Memory) = Unit {0}
Reads form bytes (Err NotJson) = (d : Data) → IsJson bytes d → ⊥
Reads form bytes (Err Unexpected) = (d : Data) × IsJson bytes d × (form d ≡ None)
